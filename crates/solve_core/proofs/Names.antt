-- Re-exports the names that most proofs cite. Declares nothing.
pub use Rattle.std.proofs.Common.{Bool, IfNone, IfSome, List, None, Option, Some, [], add-one, add-zero, ap, append-nil, append_assoc, arith, below_more, cond, count_by, drop, false, get_or, get_or-set_other, get_or-set_same, inl, inr, is_none, leb, length, length-append, length-set, ltb-false, ltb-true, map, nat_eq, nat_le, nat_lt, option_and_then, option_map, refl, replicate, rules, set, slice_index_or, slice_set, subst, suc, sym, take, take_all, true, true≢false, vec_capacity, vec_len, zero, zero-add, ℕ, ◌%◌, ◌*◌, ◌++◌, ◌+◌, ◌-◌, ◌/◌, ◌<◌, ◌∙◌, ◌∷◌, ◌≡◌, ◌≢◌, ◌≤◌, ◌⊎◌}
pub use Rattle.std.proofs.Math.ListN.{get_or-eq_default, get_or-map, length-map}
pub use Rattle.std.proofs.Math.Seq.{drop-append_seam, drop-length, take-append_seam}
pub use Rattle.std.proofs.lemmas.Bool.{and_parts, cases_Bool, cases_eq, cases_lt, eq-eqb, eqb-false, eqb-true, false_from_ne_true, le-leb, le-ltb, leb-true, lt-leb, lt-ltb, ne_eqb, or_cases}
pub use Rattle.std.proofs.lemmas.List.{drop-append-le, ext_get_or, get_or-replicate, get_or_default, get_or_past, length-replicate, length-take, length-take-le, set-get_or, set-set, take-append-drop, take-take, with_items_is}
pub use Rattle.std.proofs.lemmas.List.Elements.{All-contains, All-from_recursion, All-more, recursion_from_All}
pub use Rattle.std.proofs.lemmas.List.Quantifiers.{position-Some}
pub use Rattle.std.proofs.lemmas.List.Sums.{AllPass-from_list_all, count_by_more_no, count_by_more_yes, fails_before_first, sum_by-cons}
pub use Rattle.std.proofs.lemmas.Nat.{div-mul-add, div_below, mod-mul-add}
pub use Rattle.std.proofs.lemmas.Nat.Bits.{bit_at-lt, bit_at-suc, bit_at-zero, bit_at_and, bit_at_lowest}
pub use Rattle.std.specs.Int.{bit_at}
pub use Rattle.std.specs.List.{All, AllByRecursion, list_all, position_or_len, range_with_len}
pub use Rattle.bit_sets.proofs.Doubling.{one_within, width_most}
pub use Rattle.bit_sets.specs.Masks.{Has, IsWithBit, IsMaskOf, IsShifted, has}
pub use Rattle.grid_core.proofs.Changing.{same_cells, same_without_change}
pub use Rattle.grid_core.proofs.LineLaws.{all_lines, each_line, get_or-cells_at, get_or-strided_indices, get_or-line_indices, length-cells_at, length-strided_indices, length-line_indices, index-within}
pub use Rattle.grid_core.proofs.RowLists.{get_or-row_of, get_or-rows, length-row_of, length-rows}
pub use Rattle.grid_core.specs.Cells.{CellExtends, Extends, colour, is_filled, is_known, is_unknown}
pub use Rattle.grid_core.specs.Lines.{IsChanged, IsUnknownCell, IsUnknownFrom, with_unknown_at}
pub use Rattle.grid_core.specs.Nonogram.{GridLine, IsNonogram, Nonogram, Solves, cells_at, clues_on, crossing, line_on, lines_of, strided_indices, line_indices}
pub use Rattle.grid_core.specs.PartialGrid.{IsSize, PartialGrid}
pub use Rattle.grid_core.specs.Rows.{cells_of_rows, row_of}
pub use Rattle.grid_core.specs.Runs.{runs}
pub use Rattle.grid_core.specs.declared.cells.Cell.{Cell}
pub use Rattle.grid_core.specs.declared.cells.Cell.TheVariants.{Blank, Filled, Unknown}
pub use Rattle.grid_core.specs.declared.limits.TheConstants.{MAX_SIDE, MAX_RUNS}
pub use Rattle.grid_core.specs.declared.axes.Axis.{Axis}
pub use Rattle.grid_core.specs.declared.axes.Axis.TheVariants.{Columns, Rows}
pub use Rattle.grid_core.specs.steps.Axes.{column_on, line_count, cell_index_on, row_on}
pub use Rattle.line_core.proofs.DeductionLaws.{AtMost-trans, Extends-antisym, Extends-at, Extends-from_places, Extends-refl, Extends-trans, deduced-above, deduced-below, deduced-full, deduced-monotone, deduced-idempotent, get_or-map_colour, length-Extends, length-deduced}
pub use Rattle.line_core.specs.Deduction.{deduced}
pub use Rattle.line_core.specs.Order.{AtMost}
pub use Rattle.solve_core.specs.Closure.{closure, deduce_line, if_alive, join, join_all, join_cells, option_cons, repeat, round, with_cells}
pub use Rattle.solve_core.specs.LeastClosed.{IsLeastClosed}
pub use Rattle.solve_core.specs.Picks.{better, first_most, is_above_known, is_below_known, is_left_known, is_right_known, is_known_or_outside, most_known, picked, known_neighbours}
pub use Rattle.solve_core.specs.Report.{events_from, grade_by, grid_of, guesses_in, guesses_of, is_decided, known_in, limited_search, line_closure, report_of, search_of, solutions_in, through_solution, trial_closure, unknown_grid, verdict_by, verdict_of, whole_search, within_guesses}
pub use Rattle.solve_core.specs.Search.{Event, Guess, IsPick, Solution, events, events_within, first_unknown, guess_at, search_from}
pub use Rattle.solve_core.specs.Trials.{HasNoRefutedColour, all_present, is_refuted, left_over, trial_round, trials, after_trials_of}
pub use Rattle.solve_core.specs.Extensions.{HoldsFrom, SolvesFrom, extending_search, extensions_by, extensions_of, limited_extending}
pub use Rattle.solve_core.specs.Verdicts.{Holds, HoldsOf, IsFinal}
pub use Rattle.solve_core.specs.declared.searching.branches.Branch.{Branch}
pub use Rattle.solve_core.specs.declared.solving.propagation.Effect.TheVariants.{Changed, Dead, Unchanged}
pub use Rattle.solve_core.specs.declared.extensions.Extensions.{Extensions}
pub use Rattle.solve_core.specs.declared.findings.Findings.{Findings}
pub use Rattle.solve_core.specs.declared.findings.Verdict.{Verdict}
pub use Rattle.solve_core.specs.steps.Boards.{CanAssignLine, IsBoard, IsBoardOf, IsWhole, board_of, cells_along, unknown_board}
pub use Rattle.solve_core.specs.steps.Branches.{AreBefore, AreInOrder, AreKnownBefore, AreOlder, IsBranch, IsClosed, IsNext, IsNextCell, AreBranchesOf, cells_before, events_from_cell, pending, events_from_guess}
pub use Rattle.solve_core.specs.steps.Propagation.{Closes, Deduces, Enqueues, Propagates, PropagatesLines, PropagatesOn}
pub use Rattle.solve_core.specs.steps.ColourMasks.{ColourMasks, mask_of, no_colours}
pub use Rattle.solve_core.specs.steps.Counts.{IsFirstHighest, IsUnknownIn, count_across, count_beside, set_count, two_of}
pub use Rattle.solve_core.specs.steps.Endings.{Ending, ending}
pub use Rattle.solve_core.specs.steps.GridLines.{AreLinesOf, CanReplace, line_in, with_line}
pub use Rattle.solve_core.specs.steps.Guesses.{AreFound, FindsNext, GoesOn, Guesses, HasRoom, IsUnderWay, TakesGuess, owed, owed_by}
pub use Rattle.solve_core.specs.steps.CrossingWrites.{CanWriteIn, IsIn}
pub use Rattle.solve_core.specs.steps.LineMasks.{IsMaskWithin, IsEmptyMask, IsInMask, IsEmptyOn, LineMasks, mask_on}
pub use Rattle.solve_core.specs.steps.Worklist.{IsWorklist, IsDeduced, IsPropagated, IsWritten, WorklistAfter, AddsToWorklist, StepsTowards}
pub use Rattle.solve_core.specs.steps.ConsistentColours.{AreBothRecorded, AreConsistent}
pub use Rattle.solve_core.specs.steps.Trails.{IsEntryOf, IsTrailed, LineEntry, CellEntry, TrailedGrid, undone, entry_on, unknown_count, undo_entry}
pub use Rattle.solve_core.specs.steps.TrialState.{CanTry, ClosesUnderTrials, IsReadyForTrial, LeavesBoard, Tries}
pub use Rattle.solve_core.specs.steps.Workspaces.{HasWorklist, IsAtFixpoint, IsLater, IsPreparedFor, IsWorkspace, WorkspaceState, clue_index, clues_only, puzzle_of, state_of}
