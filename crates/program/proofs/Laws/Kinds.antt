-- Each kind of term has one number.
use Rattle.std.specs.Prelude.{List, [], ◌∷◌, ◌≡◌, ℕ, zero, suc, ◌+◌, ◌<◌, ◌≤◌, get_or}
use Rattle.std.proofs.Common.{sym, ◌∙◌, arith}
use Rattle.std.proofs.Math.ListN.{get_or-map}
use Rattle.program.specs.Formats.{Kind, Boolean, Number, Variable, Function, Letrec, Call, If, Check, Enable, Sign, Test, Sum, Difference, Less, Post, kinds, kind_of}

abbrev pub number_of_kind : Kind → ℕ
number_of_kind Boolean = 0
number_of_kind Number = 1
number_of_kind Variable = 2
number_of_kind Function = 3
number_of_kind Letrec = 4
number_of_kind Call = 5
number_of_kind If = 6
number_of_kind Check = 7
number_of_kind Enable = 8
number_of_kind Sign = 9
number_of_kind Test = 10
number_of_kind Sum = 11
number_of_kind Difference = 12
number_of_kind Less = 13
number_of_kind Post = 14

abbrev from : (i count : ℕ) → List ℕ
from i zero = []
from i (suc k) = i ∷ from (suc i) k

from_at : (i k n d : ℕ) → n < k → get_or (from i k) n d ≡ i + n
from_at i zero n d h = absurd (omega arith)
from_at i (suc k) zero d h = omega arith
from_at i (suc k) (suc n) d h = from_at (suc i) k n d (omega arith) ∙ omega arith

pub kind_number : (n : ℕ) → n ≤ 14 → number_of_kind (kind_of n) ≡ n
kind_number n h = sym (get_or-map number_of_kind kinds n Post) ∙ from_at 0 15 n 14 (omega arith) ∙ omega arith
