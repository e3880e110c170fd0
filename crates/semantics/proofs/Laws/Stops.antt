-- Where and by which cause the run of a readable sheet stops, over any domain: 17 at a check or a guarded post, 18 to 22, or 36 at an if.
use Rattle.std.specs.Prelude.{List, ◌⊎◌, ◌≡◌, refl, ℕ, ◌<◌, ◌≤◌}
use Rattle.std.proofs.Common.{inl, inr, ⊎_elim, sym, subst₂, arith}
use Rattle.std.proofs.Math.Option.{none, none-ne-some}
use Rattle.program.specs.Layout.{authority, terms, guard_of, root, kind_byte, small, first, second, third}
use Rattle.program.specs.Formats.{Kind, Boolean, Number, Variable, Function, Letrec, Call, If, Check, Enable, Sign, Test, Sum, Difference, Less, Post, kind_of}
use Rattle.program.specs.Terms.{Term, boolean, number, variable, function, letrec, call, if, check, enable, sign, test, binary, post, node, tree_to, program, Every}
use Rattle.program.proofs.Laws.Readable.{WellFormed}
use Rattle.program.proofs.Laws.Trees.{program_every}
use Rattle.semantics.specs.Domains.{Domain, single, Interpretation}
use Rattle.semantics.specs.Values.{bool, num, closure, empty, ResultOf}
use Rattle.semantics.specs.Meaning.{Mode}
use Rattle.semantics.specs.Access.{privs, lazy_control, rights, eager_control}
use Rattle.semantics.specs.Runs.{Runner, eager, lazy, Request, Sizes, stack, initial, evaluation_over, GroundOf, OutcomeOf, ended, stopped, outcome}
use Rattle.semantics.specs.Claims.{MayRefuse, at_check, at_guard, IfAt}
use Rattle.semantics.proofs.Laws.Bodies.{StopsAt, stop_check, stop_guard, stop_other, stop_undecided, Bodies, bodies_end, bodies_stop, bodies}

-- what the record with a term's number tells of the terms where 17 and 36 are told
abbrev pub StopRecord : List ℕ → Term → Type 0
StopRecord s (boolean at b) = Unit {0}
StopRecord s (number at n) = Unit {0}
StopRecord s (variable at i) = Unit {0}
StopRecord s (function at ty body) = Unit {0}
StopRecord s (letrec at ty body rest) = Unit {0}
StopRecord s (call at f a) = Unit {0}
StopRecord s (if at c y n) = IfAt s at
StopRecord s (check at p c) = kind_of (kind_byte s at) ≡ Check
StopRecord s (enable at p c) = Unit {0}
StopRecord s (sign at n c) = Unit {0}
StopRecord s (test at p y n) = Unit {0}
StopRecord s (binary at op a b) = Unit {0}
StopRecord s (post at ch g c) = (kind_of (kind_byte s at) ≡ Post) × (guard_of s (small s at) ≡ g)

node_recorded : (s : List ℕ) (k : Kind) (t a b c : ℕ) (f : ℕ → Term) → t < terms s → kind_of (kind_byte s t) ≡ k
    → StopRecord s (node (guard_of s) k t (small s t) a b c f)
node_recorded s Boolean t a b c f l e = tt
node_recorded s Number t a b c f l e = tt
node_recorded s Variable t a b c f l e = tt
node_recorded s Function t a b c f l e = tt
node_recorded s Letrec t a b c f l e = tt
node_recorded s Call t a b c f l e = tt
node_recorded s If t a b c f l e = record { a_term = l; an_if = e }
node_recorded s Check t a b c f l e = e
node_recorded s Enable t a b c f l e = tt
node_recorded s Sign t a b c f l e = tt
node_recorded s Test t a b c f l e = tt
node_recorded s Sum t a b c f l e = tt
node_recorded s Difference t a b c f l e = tt
node_recorded s Less t a b c f l e = tt
node_recorded s Post t a b c f l e = (e, refl)

program_recorded : (s : List ℕ) → WellFormed s → Every (StopRecord s) (program s)
program_recorded s w =
    program_every s w (StopRecord s)
    (λ t l. node_recorded s (kind_of (kind_byte s t)) t (first s t) (second s t) (third s t) (λ x. tree_to s t x) l refl)

-- ---- what is told of a run
pub ended≢stopped : {D : Domain} {g : GroundOf D} {c t : ℕ} → ◌≡◌ {A = OutcomeOf D} (ended g) (stopped c t) → ⊥
ended≢stopped e = absurd (let z : ◌≡◌ {A = ℕ} 0 1 = cc in omega arith)

outcome_stop : {D : Domain} (Q : Term → Type 0) (r : ℕ) {x : ResultOf D} → Bodies Q x → (c t : ℕ) → outcome r x ≡ stopped c t → StopsAt D Q c t
outcome_stop Q r (bodies_end {v = bool b} h) c t e = absurd (ended≢stopped e)
outcome_stop Q r (bodies_end {v = num n} h) c t e = absurd (ended≢stopped e)
outcome_stop Q r (bodies_end {v = closure z ty body env} h) c t e =
    let i : 18 ≡ c = cc in
    stop_other (omega (arith, i)) (omega (arith, i))
outcome_stop {D} Q r (bodies_stop {c = d} {at = at} h) c t e =
    let i : d ≡ c = cc in
    let j : at ≡ t = cc in
    subst₂ (StopsAt D Q) i j h

module _ (s : List ℕ) (w : WellFormed s) (I : Interpretation) (M : Mode) (q : Request) (z : Sizes) where
  evaluation_bodies : (r : Runner) → Bodies (StopRecord s) (evaluation_over I M r s q z)
  evaluation_bodies eager =
      bodies (StopRecord s) I (eager_control (authority s)) M q.depth (program s) (program_recorded s w)
      (rights 0 (privs (authority s) (stack q.start))) empty (initial q z) tt
  evaluation_bodies lazy =
      bodies (StopRecord s) I (lazy_control (authority s)) M q.depth (program s) (program_recorded s w) (stack q.start) empty (initial q z) tt

  pub evaluation_stop : (r : Runner) (c t : ℕ) → outcome (root s) (evaluation_over I M r s q z) ≡ stopped c t → StopsAt I.domain (StopRecord s) c t
  evaluation_stop r c t e = outcome_stop (StopRecord s) (root s) (evaluation_bodies r) c t e

module _ (s : List ℕ) where
  pub refusing : {D : Domain} (t : ℕ) → StopsAt D (StopRecord s) 17 t → MayRefuse s t
  refusing t (stop_check e h) = at_check h
  refusing t (stop_guard {p = p} e h) = at_guard p h.0 h.1
  refusing t (stop_other l h) = absurd (omega (arith, l))
  refusing t (stop_undecided e d h) = absurd (omega (arith, e))

  -- by one of 01's causes, or at an if with a condition that the domain leaves undecided
  pub stop_cases : {D : Domain} (c t : ℕ) → StopsAt D (StopRecord s) c t
      → ((17 ≤ c) × (c ≤ 22)) ⊎ ((c ≡ 36) × IfAt s t × (b : D.Truth) × (D.decide b ≡ none))
  stop_cases c t (stop_check e h) = inl (omega (arith, e), omega (arith, e))
  stop_cases c t (stop_guard e h) = inl (omega (arith, e), omega (arith, e))
  stop_cases c t (stop_other l h) = inl (omega (arith, l), h)
  stop_cases c t (stop_undecided {b = b} e d h) = inr (e, h, b, d)

  -- which numbers and booleans do not
  pub stop_single : (c t : ℕ) → StopsAt single (StopRecord s) c t → (17 ≤ c) × (c ≤ 22)
  stop_single c t h = ⊎_elim (λ k. k) (λ u. absurd (none-ne-some u.2 (sym u.3))) (stop_cases c t h)
