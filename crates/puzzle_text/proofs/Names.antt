-- The names that most proofs use, re-exported from one module. It declares nothing.
pub use Rattle.std.proofs.Common.{All, Bool, Err, IfOk, IfSome, List, None, Ok, Option, Result, Some, [], ap, append-nil, append_assoc, arith, codes, cond, decimal, drop, eqb, false, filter, get_or, inl, inr, leb, length, ltb, map, not, option_and_then, option_map, refl, reverse, rules, slice_get, suc, sum, sym, take, take_while, true, unwrap_or, vec_capacity, vec_len, zero, ℕ, ◌&&◌, ◌*◌, ◌++◌, ◌+◌, ◌-◌, ◌<◌, ◌^◌, ◌||◌, ◌∙◌, ◌∷◌, ◌≡◌, ◌≤◌}
pub use Rattle.std.proofs.Math.Bool.{and-false, or-false}
pub use Rattle.std.proofs.Math.Seq.{drop-append_seam, take-append_seam}
pub use Rattle.std.proofs.lemmas.Bool.{and_from, and_parts, cases_Bool, cond-false, cond_both, eq-eqb, eqb-true, false_from_ne_true, le-leb, le-ltb, leb-true, lt-leb, lt-ltb, ltb-false, ltb-true, ne_eqb, not-true}
pub use Rattle.std.proofs.lemmas.Bool.Decides.{nat_tests}
pub use Rattle.std.proofs.lemmas.Fmt.{decimal_is_IsNumeral, decimal_nonempty, length-decimal-le}
pub use Rattle.std.proofs.lemmas.List.{drop-map, drop_all, drop_at, drop_more, get_or-append_right, get_or-reverse, get_or-take, get_or_append_left, get_or_at, get_or_default, length-append, length-drop, length-map, length-reverse, length-take-le, length_push, nil_from_length, reverse-append, reverse-reverse, take-append-drop, take-map, take-take, take_all, take_at, take_rest}
pub use Rattle.std.proofs.lemmas.List.Concat.{flat_map-append}
pub use Rattle.std.proofs.lemmas.List.Elements.{All-cons, All-drop, All-filter, All-from_recursion, All-get_or, All-nil, All-take, filter-append, recursion_from_All}
pub use Rattle.std.proofs.lemmas.List.Folds.{flat_map-map, list_all-map, list_all_at, list_all_more, list_any-append}
pub use Rattle.std.proofs.lemmas.List.Splits.{slice_split_at, slice_split_first, slice_split_none}
pub use Rattle.std.proofs.lemmas.List.Sums.{AllPass-from_list_all, count_by-le-length, fails_before_first, length-filter, list_all-from_AllPass, position_or_len_is, prefix_len-le-length, prefix_len_stops, sum_by-cons}
pub use Rattle.std.proofs.lemmas.Option.{IfSome_then, cond_some}
pub use Rattle.std.proofs.lemmas.Str.Parse.{digit_at, digit_from_value, digits_value-take-le}
pub use Rattle.std.specs.Char.{is_ascii_alphabetic, is_ascii_digit, to_ascii_lowercase}
pub use Rattle.std.specs.List.{AllByRecursion, count_by, enumerate_from, find, flat_map, last_or, list_all, list_any, onto_first, position, position_or_len, prefix_len, slice_split}
pub use Rattle.std.specs.Str.{bytes_eq, str_to_ascii_lowercase}
pub use Rattle.std.specs.Str.Parse.{AllDigits, digits_value}
pub use Rattle.grid_core.specs.Clues.{is_clue, is_run}
pub use Rattle.grid_core.specs.Description.{Description, IsDescription, is_field, text_of}
pub use Rattle.grid_core.specs.Nonogram.{IsNonogramWithin, Nonogram, is_goal, plain}
pub use Rattle.grid_core.specs.declared.limits.TheConstants.{MAX_SIDE, MAX_TEXT_LEN}
pub use Rattle.puzzle_text.specs.Answers.{Gives, each, each_some, or_fault, ◌>>=◌}
pub use Rattle.puzzle_text.specs.ClueLines.{clue_of, clues_of, numbers_within}
pub use Rattle.puzzle_text.specs.Collections.{Entry, body_of, entries_of, first_stray, is_marker, is_stray, name_of}
pub use Rattle.puzzle_text.specs.Keywords.{after_quote, all_fields, before_quote, field_word, first_with, is_keyword_line, keyword, quoted_text, with_keyword}
pub use Rattle.puzzle_text.specs.Lines.{TextLine, is_space_or_tab, is_blank_line, is_empty, is_non_blank, is_hash, lines, numbered_from, raw_lines, strip_last, trim, trim_end, trim_start, without_ending}
pub use Rattle.puzzle_text.specs.Mk.{at_hash, before_hash, mk_of, or_else, puzzle_of, read_mk}
pub use Rattle.puzzle_text.specs.Nin.{nin_of, read_nin}
pub use Rattle.puzzle_text.specs.Non.{Sections, bad_line, both_clues, cell_of, check_lines, field_text, goal_cells, goal_of, is_content, last_keyword, least, least_of, long_text, non_of, number_of_line, outline_of, placed, puzzle_of_clues, build_puzzle, read_non, rows_first, section, sections_of, sizes_of, texts_of}
pub use Rattle.puzzle_text.specs.Numbers.{is_separator, number_within, pieces}
pub use Rattle.puzzle_text.specs.Orientation.{fits, orient, oriented_puzzle, sum_all}
pub use Rattle.puzzle_text.specs.Sizes.{first_non_blank, size_line, size_of, text_lines, two_sizes}
pub use Rattle.puzzle_text.specs.Written.{clue_line, clue_lines, clue_text, goal_byte, goal_lines, is_ambiguous, quoted_line, text_mk, text_nin, text_non, two_numbers}
pub use Rattle.puzzle_text.specs.declared.faults.TextFault.{TextFault}
pub use Rattle.puzzle_text.specs.declared.faults.TextFault.TheVariants.{BadNumber, TooLong}
pub use Rattle.puzzle_text.specs.declared.section_split.SectionKind.{SectionKind}
pub use Rattle.puzzle_text.specs.declared.section_split.SectionKind.TheVariants.{Columns, Other, Rows}
pub use Rattle.puzzle_text.specs.steps.Collections.{FollowsPlain, are_named, begins_with_marker, ends_line}
pub use Rattle.puzzle_text.specs.steps.SectionSplit.{IsSectionOfKeyword, with_line}
pub use Rattle.puzzle_text.specs.steps.Shown.{shown_keyword, shown_line, shown_sections}
pub use Rattle.puzzle_text.specs.steps.Fast.{AreClueLines, BeginsWith, BeginsWithNumber, EndsLine, HaveClues, IsNumeral, IsCommaOrSpace, KeepsOthers, ReadsClues, ReadsClue, ReadsSizes, clues_of_kind}
pub use Rattle.std.proofs.lemmas.List.Quantifiers.{position-Some}
pub use Rattle.grid_core.specs.declared.fields.Field.{Field}
pub use Rattle.grid_core.specs.declared.fields.Field.TheVariants.{By, Catalogue, Copyright, License, Title}
pub use Rattle.puzzle_text.specs.Sections.{section_lines}
pub use Rattle.puzzle_text.specs.declared.keyword_line.KeywordLine.{KeywordLine}
pub use Rattle.puzzle_text.specs.steps.Lines.{HaveNoFeed, has_no_feed}
pub use Rattle.puzzle_text.proofs.AllLemmas.{all-append, all-flat_map, all-map, all-weaker, all_pass, each_begins, filter_all, filter_none, some_with_front, with_front}
