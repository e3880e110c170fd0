-- A controller's session by computation, with a sheet that ends in 258: its root signs that number.
use Rattle.std.specs.Prelude.{true, false, List, [], ◌∷◌, ◌≡◌, refl, ℕ}
use Rattle.privileges.specs.Sets.{has, meet, union, insert, remove}
use Rattle.program.specs.Limits.{max_cells, max_posts}
use Rattle.program.specs.Screening.{refuse_at, screen}
use Rattle.semantics.specs.Meaning.{eval_with, apply, eval}
use Rattle.semantics.specs.Access.{add_authorised}
use Rattle.semantics.specs.Runs.{Buffers, zeros, course, run}
use Rattle.interp.specs.Answers.{buffers_of}
use Rattle.largest.specs.Largest.{largest_run}
use Rattle.blocks.specs.Block.{new_block, without, with_flag, raised}
use Rattle.registers.specs.Writes.{write_of}

abbrev sheet : List ℕ
sheet =
    1 ∷ 0 ∷ 2 ∷ 0 ∷ 1
    ∷ 2 ∷ 0 ∷ 4 ∷ 0 ∷ 0 ∷ 0 ∷ 0
    ∷ 3 ∷ 0 ∷ 20
    ∷ 0 ∷ 0 ∷ 0 ∷ 0 ∷ 0 ∷ 0 ∷ 0 ∷ 0 ∷ 0 ∷ 0
    ∷ 1 ∷ 0 ∷ 0 ∷ 0 ∷ 0 ∷ 0 ∷ 0 ∷ 0 ∷ 0 ∷ 0
    ∷ 4 ∷ 0 ∷ 16
    ∷ 1 ∷ 0 ∷ 1 ∷ 2 ∷ 0 ∷ 0 ∷ 0 ∷ 0
    ∷ 9 ∷ 0 ∷ 0 ∷ 0 ∷ 0 ∷ 0 ∷ 0 ∷ 0 ∷ []

abbrev largest : Buffers
largest = buffers_of (zeros max_cells) (zeros max_posts) []

-- the mask is 1, so that the interrupt waits for an end
abbrev masked : List ℕ
masked = (write_of new_block 3 1 sheet largest).block

-- the block after that end: status bit 0, and the value's highest byte first
abbrev ended : List ℕ
ended = 0 ∷ 1 ∷ 0 ∷ 1 ∷ 0 ∷ 0 ∷ 1 ∷ 2 ∷ 0 ∷ 0 ∷ 0 ∷ 0 ∷ 0 ∷ 0 ∷ 0 ∷ 0 ∷ []

pub waits : raised masked ≡ false
unfolding meet
waits = refl

pub runs : (write_of masked 0 1 sheet largest).block ≡ ended
unfolding largest_run run course screen refuse_at eval apply eval_with add_authorised has meet union insert remove without with_flag
runs = refl

pub interrupts : raised ended ≡ true
unfolding meet
interrupts = refl

-- the status bit is written as one: it is cleared, and the interrupt falls
pub falls : raised (write_of ended 1 1 sheet largest).block ≡ false
unfolding meet without
falls = refl

-- a list of 255 posts: refused, status bit 2, by 15
pub short_list : (write_of masked 0 1 sheet (buffers_of (zeros max_cells) (zeros 255) [])).block
    ≡ 0 ∷ 4 ∷ 15 ∷ 1 ∷ 0 ∷ 0 ∷ 0 ∷ 0 ∷ 0 ∷ 0 ∷ 0 ∷ 0 ∷ 0 ∷ 0 ∷ 0 ∷ 0 ∷ []
unfolding largest_run screen refuse_at meet union without with_flag
short_list = refl
