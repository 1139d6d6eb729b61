-- The loop of `grids_value`: the values of the first grids are there.
use Rattle.std.proofs.Common.{◌≡◌, map, take}
use Rattle.serde_json.specs.View.{view}
use Rattle.survey_json.specs.Pictures.{grid_data}
use Rattle.survey_json.proofs.reports.grids_value.Given as goal

abbrev pub invariant-loop-grid : goal.invariant-loop-grid
invariant-loop-grid l = map view l.values.items ≡ map (λ grid. grid_data grid.now) (take l.grid-index l.grids)
