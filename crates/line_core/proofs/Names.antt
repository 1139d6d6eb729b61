-- Re-exports the names that most proofs of this crate use. Declares nothing.
pub use Rattle.std.proofs.Common.{Bool, List, MatchBool, None, Option, Some, [], add-one, add-zero, add_comm, ap, append-nil, append_assoc, arith, cond, drop, drop-cons, drop_of_length-le, ext_get_or, false, filter, get_or, get_or-set_other, get_or-set_same, inl, inr, length, length-append, length-drop, map, nat_eq, nat_le, nat_lt, not, refl, replicate, reverse, rules, set, subst, suc, sym, take, true, true≢false, zero, zero-add, ℕ, ◌&&◌, ◌*◌, ◌++◌, ◌+◌, ◌-◌, ◌/◌, ◌<◌, ◌||◌, ◌↔◌, ◌∙◌, ◌∷◌, ◌≡◌, ◌≢◌, ◌≤◌, ◌⊎◌}
pub use Rattle.std.proofs.Math.ListN.{length-set}
pub use Rattle.std.proofs.lemmas.Bool.{and_from, and_parts, both_ways, cases_Bool, cases_eq, cases_lt, eq-eqb, eqb-false, eqb-true, false_from_ne_true, le-leb, leb-true, not-true, or_left, or_right, true_from_ne_false}
pub use Rattle.std.proofs.lemmas.List.{drop-set-lt, get_or-append-add, get_or-drop, get_or-reverse, get_or-take, get_or_append_left, get_or_default, get_or_read, length-map, length-replicate, length-reverse, length-take-le, map-append, map-set, reverse-reverse, take-map, take_all}
pub use Rattle.std.proofs.lemmas.List.Elements.{All-head, All-more, All-tail, All-weaker, filter_passes, recursion_from_All}
pub use Rattle.std.proofs.lemmas.List.Folds.{list_all-append, list_all-map}
pub use Rattle.std.proofs.lemmas.List.FromFn.{get_or-map-range_with_len, length-map-range_with_len}
pub use Rattle.std.proofs.lemmas.Nat.Bits.{bit_at-lt, bit_at-suc, bit_at-zero, bit_at_lowest, same_from_bits}
pub use Rattle.std.specs.List.{All, find, list_all, range_with_len}
pub use Rattle.bit_sets.proofs.Doubling.{one_within, width_most}
pub use Rattle.bit_sets.proofs.HasLemmas.{has_true, true_has}
pub use Rattle.bit_sets.proofs.Steps.{mask_same}
pub use Rattle.bit_sets.proofs.Uses.{flood_from, flood_same, has_of, join_of, meet_of, shifted_of}
pub use Rattle.bit_sets.specs.Masks.{AllFrom, AreLevelsOf, Has, IsFlooded, IsWithBit, IsMaskOf, IsShifted, SomeFrom, SomeLevel, has}
pub use Rattle.grid_core.proofs.LineCells.{has_by}
pub use Rattle.grid_core.proofs.RunsLemmas.{runs_after}
pub use Rattle.grid_core.specs.Cells.{CellExtends, Extends, agrees, allows, colour, is_filled}
pub use Rattle.grid_core.specs.Runs.{is_positive, runs}
pub use Rattle.grid_core.specs.declared.cells.Cell.{Cell}
pub use Rattle.grid_core.specs.declared.cells.Cell.TheVariants.{Blank, Filled, Unknown}
pub use Rattle.line_core.proofs.LineCells.{lacks, length_at, lengths_mirrored, none_has, none_in, none_is, written_more}
pub use Rattle.line_core.proofs.RunLaws.{ArePositive, runs_after-close, runs_after-false, runs_after-nil, runs_after-true, runs_after-zero}
pub use Rattle.line_core.specs.Deduction.{deduced, shared, shared_at}
pub use Rattle.line_core.specs.RunStarts.{AreStarts, all_starts, run_starts, starts_run}
pub use Rattle.line_core.specs.Placings.{full_lines, is_placing, placings}
pub use Rattle.line_core.specs.declared.starts.Direction.{Direction}
pub use Rattle.line_core.specs.declared.starts.Direction.TheVariants.{Left, Right}
pub use Rattle.line_core.specs.steps.Outermost.{IsAsFar, IsOuterStart, outermost}
pub use Rattle.line_core.specs.steps.Overlaps.{IsOverlap, IsOverlapBefore, least_start, needed}
pub use Rattle.line_core.specs.steps.PrefixScan.{IsScanOver, padded}
pub use Rattle.line_core.specs.steps.Feasibility.{AreLengths, HasPlacing, IsBlankable, IsEnd, IsEndAfter, IsFillable, IsPrefixGap, IsGapAfter, IsSuffixGap, IsStartAfter, IsFeasibleEnd, MayBe, MayBeginBlank, reversed_prefix}
pub use Rattle.line_core.specs.Support.{deduced_cell, deduced_from}
pub use Rattle.std.proofs.lemmas.Grind.{common_steps, get_or-set_at}
pub use Rattle.line_core.specs.Lookahead.{SupportMasks, LookaheadMasks, coloured, masks_if, no_support, no_lookahead}
pub use Rattle.line_core.specs.steps.Lookahead.{IsSupportOf, IsPrefixSupport, AreMasks, AreFeasibleEnds, CanBeBefore, CanBeMirrored, IsFeasibleGap, mirror_index}
pub use Rattle.line_core.specs.steps.Combining.{AreMore, AreLookaheadsMore, AreEndSupports, CanBeAfter, CanBeBesideGap, CanBeBesideRun, CanBeUpTo, CanBeWithBlank, CanBeWithFilled, HasColour, IsEndOver}
pub use Rattle.bit_sets.proofs.LevelSteps.{levels_none, none_at, bits_at}
pub use Rattle.line_core.specs.steps.PrefixSupports.{AreRowsTo, IsRow, IsMirroredIn}
pub use Rattle.std.proofs.lemmas.List.Sums.{list_all-from_AllPass, sum_by-take-le, sum_by_more}
pub use Rattle.std.specs.Int.{bit_at}
