-- What the contract of the function that reads a header says.
use Rattle.std.specs.Prelude.{ℕ, ◌≤◌}
use Rattle.vector_io.specs.declared.input.Vector.{Vector}

-- no length is above that of the buffer for it
pub record VectorFits (start sheet cells posts frames : ℕ) (v : Vector) : Type 0 where
  pub start_most : v.start ≤ start
  pub sheet_most : v.sheet ≤ sheet
  pub cells_most : v.cells ≤ cells
  pub posts_most : v.posts ≤ posts
  pub frames_most : v.frames ≤ frames
