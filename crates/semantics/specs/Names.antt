-- Which privilege a term names. 02, W11: "no check, test or guard names p". These are the terms that ask whether a privilege is granted, and an enable asks
-- nothing.
use Rattle.std.specs.Prelude.{Bool, List, ℕ}
use Rattle.std.proofs.Math.Option.{Option, none, some}
use Rattle.program.specs.Terms.{Term, boolean, number, variable, function, letrec, call, if, check, enable, sign, test, binary, post, tree, contains}

-- a check's, a test's, or the guard of the channel that a post is on
abbrev pub named_by : Term → Option ℕ
named_by (boolean at b) = none
named_by (number at n) = none
named_by (variable at i) = none
named_by (function at ty body) = none
named_by (letrec at ty body rest) = none
named_by (call at f a) = none
named_by (if at c y n) = none
named_by (check at p c) = some p
named_by (enable at p c) = none
named_by (sign at n c) = none
named_by (test at p y n) = some p
named_by (binary at op a b) = none
named_by (post at ch g c) = g

-- whether term t of a sheet names p
unfoldable pub names : List ℕ → (p t : ℕ) → Bool
names s p t = contains p (named_by (tree s t))
