-- The state of a workspace, whichever of the three set widths it has.
use Rattle.solve_core.specs.declared.any_workspaces.SizedWorkspace.{SizedWorkspace}
use Rattle.solve_core.specs.declared.any_workspaces.SizedWorkspace.TheVariants.{Narrow, Middle, Wide}
use Rattle.solve_core.specs.steps.Workspaces.{WorkspaceState}

-- the state of the workspace
abbrev pub state_in : SizedWorkspace → WorkspaceState
state_in (Narrow workspace) = workspace
state_in (Middle workspace) = workspace
state_in (Wide workspace) = workspace
