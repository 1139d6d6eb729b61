-- Lemmas on goals: the word for a goal, and that a goal meets the clues exactly if it shows the only solution.
use Rattle.std.proofs.Common.{◌≡◌, ℕ, ◌+◌, ◌-◌, ◌*◌, ◌/◌, ◌%◌, ◌<◌, ◌≤◌, Bool, true, false, List, [], ◌∷◌, Option, Some, None, Decides, ◌↔◌, ◌==◌, length, map, take, drop, get_or, refl, sym, ap, subst, ◌∙◌, if◌then◌else◌, arith}
use Rattle.std.specs.List.{AllByRecursion, list_all}
use Rattle.std.proofs.lemmas.Bool.{and_parts, and_from}
use Rattle.std.proofs.lemmas.Bool.Decides.{Decides-eqb}
use Rattle.std.proofs.lemmas.List.{ext_get_or, get_or-drop, get_or-map, get_or-take, length-drop, length-map, length-take-le}
use Rattle.std.proofs.lemmas.List.Elements.{recursion_from_All, All-from_recursion}
use Rattle.std.proofs.Math.Nat.{mod-lt}
use Rattle.std.proofs.lemmas.Nat.{div-add-mod', mul-add-lt, row-Below}
use Rattle.std.proofs.lemmas.Slice.Eq.{bytes_eq-Decides}
use Rattle.grid_core.specs.Cells.{colour, is_filled, is_known}
use Rattle.grid_core.specs.Nonogram.{GridLine, Nonogram, GivenMeets, Meets, MeetsLine, Solves, lines_of}
use Rattle.grid_core.specs.PartialGrid.{PartialGrid, cell_at}
use Rattle.grid_core.specs.Rows.{row_of}
use Rattle.grid_core.proofs.RowLists.{get_or-row_of, length-row_of}
use Rattle.grid_core.specs.declared.cells.Cell.{Cell}
use Rattle.grid_core.specs.declared.cells.Cell.TheVariants.{Unknown}
use Rattle.grid_core.specs.declared.puzzles.GoalWord.{GoalWord}
use Rattle.grid_core.specs.declared.puzzles.GoalWord.TheVariants as word
use Rattle.survey_text.specs.Goals.{meets_clues, meets_line, word_of_goal}
use Rattle.survey_text.specs.steps.Goals.{AreColours, IsOnlySolution, IsRowShown}

-- the test of all lines is true exactly if the grid meets their clues
lines_decide : (full : List Bool) (lines : List GridLine) →
    Decides (list_all (meets_line full) lines) (AllByRecursion (MeetsLine full) lines)
lines_decide full [] = (λ _. tt, λ _. refl)
lines_decide full (line ∷ lines) =
    let here = bytes_eq-Decides _ line.clue in
    let others = lines_decide full lines in (
      λ test. let parts = and_parts _ _ test in (here.0 parts.0, others.0 parts.1),
      λ all. and_from _ _ (here.1 all.0) (others.1 all.1),
    )

-- the test of a full grid is true exactly if it meets the clues of the puzzle
pub meets_decide : (p : Nonogram) (full : List Bool) → Decides (meets_clues p full) (Meets p full)
meets_decide p full =
    let lines = lines_decide full (lines_of p) in
    let size_test = length full == p.width * p.height in
    let size = Decides-eqb (length full) (p.width * p.height) in
    let lines_test = list_all (meets_line full) (lines_of p) in (
      λ test. let parts = and_parts size_test lines_test test in
          record { size = size.0 parts.0; clues = All-from_recursion _ _ (lines.0 parts.1) },
      λ meets. and_from size_test lines_test (size.1 meets.size) (lines.1 (recursion_from_All _ _ meets.clues)),
    )

-- a word that is not `Absent`, and `Meets` exactly if the values meet the clues, is determined by a test of that
by_test : (p : Nonogram) (values : List Bool) (test : Bool) (printed : GoalWord) → Decides test (Meets p values)
    → (printed ≡ word.Absent → ⊥)
    → (printed ≡ word.Meets) ↔ Meets p values → printed ≡ (if test then word.Meets else word.Misses)
by_test p values true printed decides some meets = meets.1 (decides.0 refl)
by_test p values false word.Absent decides some meets = absurd (some refl)
by_test p values false word.Meets decides some meets = let bad = decides.1 (meets.0 refl) in cc
by_test p values false word.Misses decides some meets = refl

-- a word that is not `Absent`, and `Meets` exactly if the values meet the clues, is the word for these values
pub word_is : (p : Nonogram) (values : List Bool) (printed : GoalWord) → (printed ≡ word.Absent → ⊥) → (printed ≡ word.Meets)
    ↔ Meets p values
    → printed ≡ word_of_goal p (Some values)
word_is p values printed some meets = by_test p values (meets_clues p values) printed (meets_decide p values) some meets

-- a word that is `Absent` exactly without a goal, and `Meets` exactly if the goal meets the clues, is the word for the goal
pub word_of_goal_is : (p : Nonogram) (goal : Option (List Bool)) (printed : GoalWord) → (printed ≡ word.Absent) ↔ (goal ≡ None)
    → (printed ≡ word.Meets) ↔ GivenMeets p goal → printed ≡ word_of_goal p goal
word_of_goal_is p None printed absent meets = absent.1 refl
word_of_goal_is p (Some values) printed absent meets = word_is p values printed (λ e. let bad = absent.0 e in cc) meets

-- the slice of `values` for row `y` shows the cells of the row exactly if `values` shows that row
pub row_shown : (grid : PartialGrid) (values : List Bool) (y first width last : ℕ) (row : List Cell) → row ≡ row_of grid y
    → width ≡ grid.width → first ≡ y * width → last ≡ first + width
    → AreColours row (take (last - first) (drop first values)) ↔ IsRowShown grid values y
row_shown grid values y first width last row is wide start end =
    let count : length row ≡ grid.width = ap length is ∙ length-row_of grid y in
    let value : (x : ℕ) → x < grid.width
    → get_or (take (last - first) (drop first values)) x false ≡ get_or values (y * grid.width + x) false =
    λ x within.
    get_or-take (last - first) (drop first values) x false (omega arith) ∙ get_or-drop first values x false
    ∙ ap (λ (k : ℕ). get_or values k false) (rw (start, wide) refl) in
    let cell : (x : ℕ) → x < grid.width → is_filled (get_or row x Unknown) ≡ is_filled (cell_at grid x y) =
    λ x within. ap is_filled (ap (λ (cells : List Cell). get_or cells x Unknown) is ∙ get_or-row_of grid x y within) in (
      λ shown x within. sym (value x within) ∙ shown x (omega (arith, count)) ∙ cell x within,
      λ shown x within.
          let inside : x < grid.width = omega (arith, count, within) in
          value x inside ∙ shown x inside ∙ sym (cell x inside),
    )

-- the slice of `values` for row `y` has as many values as the row has cells
pub row_count : (values : List Bool) (y first width height last count : ℕ) → y < height → 1 ≤ width → length values ≡ width * height
    → first ≡ y * width → last ≡ first + width → count ≡ width → length (take (last - first) (drop first values)) ≡ count
row_count values y first width height last count row some size start end is =
    let inside : y * width + (width - 1) < width * height =
    omega (arith, mul-add-lt y width (width - 1) height row (omega (arith, some))) in
    let left : length (drop first values) ≡ length values - first = length-drop first values in
    length-take-le (last - first) (drop first values) (omega (arith, left, inside)) ∙ omega arith

-- values that show all rows are the colours of all cells
shown_values : (grid : PartialGrid) (values : List Bool) → 0 < grid.width → length grid.cells ≡ grid.width * grid.height →
    length values ≡ grid.width * grid.height
    → ((y : ℕ) → y < grid.height → IsRowShown grid values y) → map is_filled grid.cells ≡ values
shown_values grid values some cells size shown =
    ext_get_or false (map is_filled grid.cells) values (length-map grid.cells is_filled ∙ cells ∙ sym size) (λ i within.
    let inside : i < length grid.cells = omega (arith, length-map grid.cells is_filled) in
    let row = (row-Below i grid.width grid.width grid.height (omega arith) (omega arith)).1 in
    get_or-map is_filled grid.cells i Unknown false inside
    ∙ sym (rw (div-add-mod' i grid.width) at (shown (i / grid.width) row (i % grid.width) (mod-lt i some))))

-- the colours of all cells show each row
values_shown : (grid : PartialGrid) (values : List Bool) → length grid.cells ≡ grid.width * grid.height → map is_filled grid.cells ≡ values
    → (y : ℕ) → y < grid.height → IsRowShown grid values y
values_shown grid values cells same y row = λ x column.
    let inside : y * grid.width + x < length grid.cells = omega (arith, mul-add-lt y grid.width x grid.height row column) in
    ap (λ (vs : List Bool). get_or vs (y * grid.width + x) false) (sym same)
    ∙ get_or-map is_filled grid.cells (y * grid.width + x) Unknown false inside

-- in a grid drawn from values, exactly the cells with a true value are filled
colours_filled : (values : List Bool) → map is_filled (map colour values) ≡ values
colours_filled [] = refl
colours_filled (true ∷ values) = ap (λ (left : List Bool). true ∷ left) (colours_filled values)
colours_filled (false ∷ values) = ap (λ (left : List Bool). false ∷ left) (colours_filled values)

-- in a grid drawn from values, all cells are known
colours_known : (values : List Bool) → list_all is_known (map colour values) ≡ true
colours_known [] = refl
colours_known (true ∷ values) = colours_known values
colours_known (false ∷ values) = colours_known values

-- values that meet the clues are the colours of the only solution
only_met : (p : Nonogram) (solution : PartialGrid) (values : List Bool) → IsOnlySolution p solution → Meets p values →
    map is_filled solution.cells ≡ values
only_met p solution values only meets =
    let drawn : PartialGrid = record { width = p.width; height = p.height; cells = map colour values } in
    let solves : Solves p drawn = record {
      width = refl;
      height = refl;
      full = colours_known values;
      meets = subst (Meets p) (sym (colours_filled values)) meets;
    } in
    ap (λ (grid : PartialGrid). map is_filled grid.cells) (sym (only.only drawn solves)) ∙ colours_filled values

-- values meet the clues exactly if they show the only solution
pub meets_where_shown : (p : Nonogram) (solution : PartialGrid) (values : List Bool) → IsOnlySolution p solution
    → 1 ≤ solution.width → length solution.cells ≡ solution.width * solution.height → length values ≡ p.width * p.height
    → ((y : ℕ) → y < solution.height → IsRowShown solution values y) ↔ Meets p values
meets_where_shown p solution values only wide_enough cells size =
    let same : length values ≡ solution.width * solution.height = rw (only.solves.width, only.solves.height) size in (
      λ shown. subst (Meets p) (shown_values solution values (omega arith) cells same shown) only.solves.meets,
      λ meets. values_shown solution values cells (only_met p solution values only meets),
    )
