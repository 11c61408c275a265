-- The text of a grid, as bytes. Assumes nothing.
use Rattle.std.specs.Prelude.{ℕ, cond, List, [], ◌++◌, drop, codes, decimal, fold, ◌==◌, slice_index}
use Rattle.grid.specs.declared.answer.Grid.{Grid}

-- `.` for pass, else the number of the rule that fails
abbrev pub cell_text : ℕ → List ℕ
cell_text answer = cond (answer == 0) (codes ".") (decimal answer)

-- each answer after a blank
abbrev pub cells_text : List ℕ → List ℕ
cells_text answers = fold (λ before answer. before ++ (codes " " ++ cell_text answer)) [] answers

-- the cells of a row, a blank between two, and the end of the line
abbrev pub row_text : List ℕ → List ℕ
row_text row = cell_text (slice_index row 0) ++ (cells_text (drop 1 row) ++ codes "\n")

-- row after row
abbrev pub rows_text : List (List ℕ) → List ℕ
rows_text rows = fold (λ before row. before ++ row_text row) [] rows

-- the rows, and how many answers pass
abbrev pub grid_text : Grid → List ℕ
grid_text grid = rows_text grid.rows ++ (decimal grid.passing ++ codes " of 256 pass\n")
