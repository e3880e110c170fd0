-- Terms related by erasure: the second is the first with its checks and enables gone, its types renumbered by ρ and its terms by ν. There is no rule for a
-- test, nor for a post with a guard.
use Rattle.std.specs.Prelude.{Bool, ℕ}
use Rattle.std.proofs.Math.Option.{none}
use Rattle.program.specs.Terms.{Op, Term, boolean, number, variable, function, letrec, call, if, check, enable, sign, binary, post}

pub data Erases (ρ ν : ℕ → ℕ) : Term → Term → Type 0 where
  e_boolean : {at : ℕ} {b : Bool} → Erases ρ ν (boolean at b) (boolean (ν at) b)
  e_number : {at n : ℕ} → Erases ρ ν (number at n) (number (ν at) n)
  e_variable : {at i : ℕ} → Erases ρ ν (variable at i) (variable (ν at) i)
  e_function : {at ty : ℕ} {body body' : Term} → Erases ρ ν body body' → Erases ρ ν (function at ty body) (function (ν at) (ρ ty) body')
  e_letrec : {at ty : ℕ} {body body' rest rest' : Term} → Erases ρ ν body body' → Erases ρ ν rest rest'
      → Erases ρ ν (letrec at ty body rest) (letrec (ν at) (ρ ty) body' rest')
  e_call : {at : ℕ} {f f' a a' : Term} → Erases ρ ν f f' → Erases ρ ν a a' → Erases ρ ν (call at f a) (call (ν at) f' a')
  e_if : {at : ℕ} {c c' y y' n n' : Term} → Erases ρ ν c c' → Erases ρ ν y y' → Erases ρ ν n n' → Erases ρ ν (if at c y n) (if (ν at) c' y' n')
  e_check : {at p : ℕ} {c c' : Term} → Erases ρ ν c c' → Erases ρ ν (check at p c) c'
  e_enable : {at p : ℕ} {c c' : Term} → Erases ρ ν c c' → Erases ρ ν (enable at p c) c'
  e_sign : {at n : ℕ} {c c' : Term} → Erases ρ ν c c' → Erases ρ ν (sign at n c) (sign (ν at) n c')
  e_binary : {at : ℕ} {op : Op} {a a' b b' : Term} → Erases ρ ν a a' → Erases ρ ν b b' → Erases ρ ν (binary at op a b) (binary (ν at) op a' b')
  e_post : {at ch : ℕ} {c c' : Term} → Erases ρ ν c c' → Erases ρ ν (post at ch none c) (post (ν at) ch none c')
