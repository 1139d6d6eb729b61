-- What an entry's object has of its puzzle: clues, and what is wrong with them.
use Rattle.std.specs.Prelude.{ℕ, List, [], ◌∷◌, codes, map}
use Rattle.grid_core.specs.declared.axes.Axis.{Axis}
use Rattle.grid_core.specs.declared.axes.Axis.TheVariants.{Rows, Columns}
use Rattle.diagnosis.specs.declared.misfits.Misfit.{Misfit}
use Rattle.diagnosis.specs.declared.sums.Sums.{Sums}
use Rattle.serde_json.specs.Data.{Data, string}
use Rattle.survey_json.specs.Values.{array_of, number_data, object_with}

-- a clue: the array of its numbers
abbrev pub clue_data : List ℕ → Data
clue_data clue = array_of (map number_data clue)

-- the clues of an axis
abbrev pub clues_data : List (List ℕ) → Data
clues_data clues = array_of (map clue_data clues)

-- the word for a line of an axis
abbrev pub axis_word : Axis → List ℕ
axis_word Rows = codes "row"
axis_word Columns = codes "column"

-- a clue that doesn't fit its line, which is counted from 0
abbrev pub misfit_data : Misfit → Data
misfit_data misfit = object_with (
    (codes "axis", string (axis_word misfit.axis))
    ∷ (codes "cells", number_data misfit.cells)
    ∷ (codes "line", number_data misfit.index)
    ∷ (codes "needed", number_data misfit.needed)
    ∷ []
    )

-- the clues that don't fit their line
abbrev pub misfits_data : List Misfit → Data
misfits_data misfits = array_of (map misfit_data misfits)

-- how many cells clues fill
abbrev pub sums_data : Sums → Data
sums_data sums = object_with (
    (codes "columns", number_data sums.columns) ∷ (codes "rows", number_data sums.rows) ∷ []
    )
