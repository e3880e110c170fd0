-- The type that a derivation gives a sheet is of the sheet's table: the boolean, the number or a function.
use Rattle.std.specs.Prelude.{List, ◌∷◌, true, ◌≡◌, ℕ, zero, suc, ◌<◌, ◌≤◌}
use Rattle.std.proofs.Math.Option.{some, none-ne-some, some-injective}
use Rattle.std.proofs.Common.{subst, arith, le-leb, lt-ltb}
use Rattle.privileges.specs.Booleans.{and_both}
use Rattle.program.specs.Layout.{types, types_of}
use Rattle.program.specs.Terms.{Op, sum, difference, less, Term}
use Rattle.program.proofs.Laws.Readable.{WellFormed}
use Rattle.program.proofs.Laws.Types.{function_type}
use Rattle.typing.specs.Subtyping.{Wider, wider_second, wider_first}
use Rattle.typing.specs.Rules.{lookup_type, result_type, current, Derives, d_boolean, d_number, d_variable, d_function, d_letrec, d_call, d_if, d_test, d_check, d_enable, d_sign, d_binary, d_post, d_widen}
use Rattle.typing.specs.Verdicts.{SheetDerives}

module _ (s : List ℕ) (w : WellFormed s) where
  abbrev AllInside : List ℕ → Type 0
  AllInside Γ = (i τ : ℕ) → lookup_type Γ i ≡ some τ → τ < types s

  more_inside : (σ : ℕ) (Γ : List ℕ) → σ < types s → AllInside Γ → AllInside (σ ∷ Γ)
  more_inside σ Γ l h zero τ e = subst (λ x. x < types s) (some-injective σ τ e) l
  more_inside σ Γ l h (suc i) τ e = h i τ e

  result_inside : (op : Op) → result_type op < types s
  result_inside sum = omega (arith, w.types_least)
  result_inside difference = omega (arith, w.types_least)
  result_inside less = omega (arith, w.types_least)

  wider_inside : {a b c : ℕ} → Wider (types_of s) a b c → a < types s → b < types s → c < types s
  wider_inside (wider_second p) ha hb = hb
  wider_inside (wider_first n p) ha hb = ha

  type_inside : {A : ℕ → ℕ} {Γ : List ℕ} {n : ℕ} {c : Term} {τ N : ℕ} → AllInside Γ → Derives current (types_of s) A Γ n c τ N → τ < types s
  type_inside h d_boolean = omega (arith, w.types_least)
  type_inside h d_number = omega (arith, w.types_least)
  type_inside h (d_variable {i = i} {τ = τ} e) = h i τ e
  type_inside h (d_function {ty = ty} f d l) = (function_type s w ty f).inside
  type_inside h (d_letrec {Γ} {ty = ty} f d l d') = type_inside (more_inside ty Γ (function_type s w ty f).inside h) d'
  type_inside h (d_call {φ = φ} d d' f p) = let t = function_type s w φ f in omega (arith, t.inside, t.res_below)
  type_inside h (d_if d d' d'' b) = wider_inside b (type_inside h d') (type_inside h d'')
  type_inside h (d_test d d' b) = wider_inside b (type_inside h d) (type_inside h d')
  type_inside h (d_check d) = type_inside h d
  type_inside h (d_enable d) = type_inside h d
  type_inside h (d_sign d l) = type_inside h d
  type_inside h (d_binary {op = op} d d') = result_inside op
  type_inside h (d_post d) = omega (arith, w.types_least)
  type_inside h (d_widen d l) = type_inside h d

  pub neither_function : {τ N : ℕ} → SheetDerives s τ N → 2 ≤ τ → (types_of s).is_fun τ ≡ true
  neither_function {τ} d l =
      and_both (le-leb 2 τ l) (lt-ltb τ (types s) (type_inside (λ i σ e. absurd (none-ne-some σ e)) d))
