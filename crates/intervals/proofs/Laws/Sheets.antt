-- The program of a readable sheet of version 1 whose number terms have their pairs: every number term that is evaluated has its choice inside its range, and
-- posts have no channel and no guard.
use Rattle.std.specs.Prelude.{true, ◌≡◌, refl, ℕ, ◌<◌}
use mathlib.Core.List.{List, reverse, reverse_aux}
use Rattle.std.proofs.Math.Option.{Option}
use Rattle.std.proofs.Common.{sym, ap, ◌∙◌, eqb-true, eq-eqb}
use Rattle.privileges.specs.Booleans.{and_left}
use Rattle.program.specs.Layout.{version, terms, guard_of, kind_byte, small, first, second, third}
use Rattle.program.specs.Formats.{Kind, Boolean, Number, Variable, Function, Letrec, Call, If, Check, Enable, Sign, Test, Sum, Difference, Less, Post, kind_of}
use Rattle.program.specs.Terms.{Term, node, tree_to, program, Every}
use Rattle.program.proofs.Laws.Readable.{WellFormed}
use Rattle.program.proofs.Laws.Kinds.{number_of_kind, kind_number}
use Rattle.program.proofs.Laws.Trees.{parts, program_every}
use Rattle.intervals.specs.Intervals.{Interval}
use Rattle.intervals.specs.Pairs.{is_number, pair_of, pairs_ok}
use Rattle.intervals.specs.Claims.{Words, Choice, InsidePosts, no_posts, next_post}
use Rattle.intervals.proofs.Laws.Containment.{NumberInside, LiteralsInside}

-- ---- 35
pub version_1 : (s ps : List ℕ) → pairs_ok s ps ≡ true → version s ≡ 1
version_1 s ps h = eqb-true (version s) 1 (search (h, and_left))

-- ---- a number's record gives a number term
number_node : (L : ℕ → Interval) (ρ : (at n : ℕ) → ℕ) (G : ℕ → Option ℕ) (k : Kind) (t x a b c : ℕ) (f : ℕ → Term) → (k ≡ Number → NumberInside (L t) (ρ t a))
    → LiteralsInside L ρ (node G k t x a b c f)
number_node L ρ G Boolean t x a b c f h = tt
number_node L ρ G Number t x a b c f h = h refl
number_node L ρ G Variable t x a b c f h = tt
number_node L ρ G Function t x a b c f h = tt
number_node L ρ G Letrec t x a b c f h = tt
number_node L ρ G Call t x a b c f h = tt
number_node L ρ G If t x a b c f h = tt
number_node L ρ G Check t x a b c f h = tt
number_node L ρ G Enable t x a b c f h = tt
number_node L ρ G Sign t x a b c f h = tt
number_node L ρ G Test t x a b c f h = tt
number_node L ρ G Sum t x a b c f h = tt
number_node L ρ G Difference t x a b c f h = tt
number_node L ρ G Less t x a b c f h = tt
number_node L ρ G Post t x a b c f h = tt

pub number_kind : (s : List ℕ) → WellFormed s → (t : ℕ) → t < terms s → kind_of (kind_byte s t) ≡ Number → is_number s t ≡ true
number_kind s w t l e = eq-eqb (kind_byte s t) 1 (sym (kind_number (kind_byte s t) (parts s w t l).kind_ok) ∙ ap number_of_kind e)

module _ (s ps : List ℕ) (ρ : (at n : ℕ) → ℕ) (w : WellFormed s) (words : Words ps) (c : Choice s ps ρ) where
  pub program_fits : Every (LiteralsInside (pair_of s ps) ρ) (program s)
  program_fits =
      program_every s w (LiteralsInside (pair_of s ps) ρ)
      (λ t l. number_node (pair_of s ps) ρ (guard_of s) (kind_of (kind_byte s t)) t (small s t) (first s t) (second s t) (third s t) (λ x. tree_to s t x)
      (λ e. record { inside = c.inside t l (number_kind s w t l e); low = words.below _ }))

-- ---- posts, which a budget has with the latest first
inside_reversed : {xs ys zs ws : List ℕ} → InsidePosts xs ys → InsidePosts zs ws → InsidePosts (reverse_aux xs zs) (reverse_aux ys ws)
inside_reversed no_posts q = q
inside_reversed (next_post l h p) q = inside_reversed p (next_post l h q)

pub inside_reverse : {xs ys : List ℕ} → InsidePosts xs ys → InsidePosts (reverse xs) (reverse ys)
inside_reverse p = inside_reversed p no_posts
