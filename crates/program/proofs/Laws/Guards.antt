-- The channels and guards of a readable sheet: a post's channel is below 16 and its guard a privilege below 32, and version 1 has neither.
use Rattle.std.specs.Prelude.{Bool, true, false, cond, ◌||◌, List, [], ◌≡◌, refl, ℕ, zero, suc, ◌+◌, ◌<◌, ◌≤◌, leb, ltb, eqb}
use Rattle.std.proofs.lemmas.Bool.{false≢true}
use Rattle.std.proofs.Math.Option.{Option, none, some, none-ne-some, some-injective}
use Rattle.std.proofs.Common.{sym, ap, ◌∙◌, subst, arith, ltb-true, leb-true, eqb-true, le-ltb, ne_eqb}
use Rattle.privileges.specs.Sets.{privilege_count}
use Rattle.program.specs.Limits.{max_channels, no_guard, max_privilege}
use Rattle.program.specs.Bytes.{byte}
use Rattle.program.specs.Layout.{version, has_guards, terms, term_at, guard_field, guard_at, sheet_end, channels, guard_byte, guard_in, guard_of, root, kind_byte, small, first, second, third}
use Rattle.program.specs.Formats.{Part, unused, channel, Kind, Boolean, Number, Variable, Function, Letrec, Call, If, Check, Enable, Sign, Test, Sum, Difference, Less, Post, kind_of, format}
use Rattle.program.specs.Terms.{Term, node, tree_to, program, contains, EveryPost, Plain, Unguarded}
use Rattle.program.specs.Screening.{lowest}
use Rattle.program.specs.Decoding.{holds, field, part_ok, format_at, guard_ok, guard_conditions, is_guard}
use Rattle.program.proofs.Laws.Readable.{WellFormed}
use Rattle.program.proofs.Laws.Trees.{Below, below, parts, root_lower}

-- ---- a post's channel, and its guard
pub channels_most : (s : List ℕ) → channels s ≤ max_channels
channels_most s = go (has_guards s)
  where
    go : (b : Bool) → cond b max_channels 1 ≤ max_channels
    go true = omega arith
    go false = omega arith

channel_part : (s : List ℕ) (t : ℕ) (p : Part) (x : ℕ) → part_ok s t p x ≡ true → p ≡ channel → x < channels s
channel_part s t p x h e = ltb-true x (channels s) (subst (λ (q : Part). part_ok s t q x ≡ true) e h)

pub channel_in : (s : List ℕ) → WellFormed s → (t : ℕ) → t < terms s → (format_at s t).small ≡ channel → small s t < channels s
channel_in s w t l e = channel_part s t (format_at s t).small (small s t) (parts s w t l).small_ok e

pub channel_below : (s : List ℕ) → WellFormed s → (t : ℕ) → t < terms s → (format_at s t).small ≡ channel → small s t < max_channels
channel_below s w t l e = omega (arith, channel_in s w t l e, channels_most s)

-- "privilege k, 0 to 31": the last one
pub last_privilege : max_privilege + 1 ≡ privilege_count
last_privilege = refl

-- "a privilege 0 to 31, or 255 for none"
pub guard_low : (x : ℕ) → is_guard x ≡ true → (p : ℕ) → guard_in x ≡ some p → (p ≡ x) × (p < privilege_count)
guard_low x h p e = go (leb x max_privilege) refl (eqb x no_guard) refl h e
  where
    go : (a : Bool) → leb x max_privilege ≡ a → (b : Bool) → eqb x no_guard ≡ b → (a || b) ≡ true → cond b none (some x) ≡ some p
        → (p ≡ x) × (p < privilege_count)
    go a ea true eb h e = absurd (none-ne-some p e)
    go true ea false eb h e = let q : x ≡ p = some-injective x p e in (sym q, omega (arith, leb-true x max_privilege ea, q))
    go false ea false eb h e = absurd (false≢true h)

pub guard_privilege : (x : ℕ) → is_guard x ≡ true → (x ≡ no_guard → ⊥) → x < privilege_count
guard_privilege x h n = (guard_low x h x (λ i. cond (ne_eqb x no_guard n i) none (some x))).1

pub guard_below : (s : List ℕ) → WellFormed s → (c : ℕ) → c < max_channels → (p : ℕ) → guard_of s c ≡ some p → p < privilege_count
guard_below s w c l p e = (guard_low (guard_byte s c) (w.guard_ok_holds c l) p e).1

-- a privilege guards a channel exactly if it is the guard byte, since no privilege is the byte for none
pub guard_contains : (p x : ℕ) → p < privilege_count → eqb x p ≡ contains p (guard_in x)
guard_contains p x l = go (eqb x no_guard) refl
  where
    go : (z : Bool) → eqb x no_guard ≡ z → eqb x p ≡ contains p (cond z none (some x))
    go true e = ne_eqb x p (λ q. omega (arith, q, eqb-true x no_guard e))
    go false e = refl

-- ---- version 1: "Version 1 posts on channel 0 without a guard."

-- nothing is asked of it but what 01 asks: no field after the terms, a post's small part zero like an unused one, no guard to be at fault
pub record WithoutGuards (s : List ℕ) : Type 0 where
  pub no_field : guard_conditions s ≡ []
  pub terms_last : sheet_end s ≡ term_at s (terms s)
  pub small_unused : (t x : ℕ) → part_ok s t channel x ≡ part_ok s t unused x
  pub no_fault : lowest (guard_ok s) 0 max_channels ≡ none
  pub one_channel : channels s ≡ 1
  pub none_guarded : (c : ℕ) → guard_of s c ≡ none

zero_below_one : (x : ℕ) → ltb x 1 ≡ eqb x 0
zero_below_one zero = refl
zero_below_one (suc x) = le-ltb (suc x) 1 (omega arith) ∙ sym (ne_eqb (suc x) 0 (λ e. omega (arith, e)))

pub without_guards : (s : List ℕ) → version s ≡ 1 → WithoutGuards s
without_guards s one =
    let h : has_guards s ≡ false = ap (λ (v : ℕ). eqb v 2) one in
    record {
      no_field = λ i. cond (h i) (field s (guard_field s) 5 (holds max_channels 1 1)) [];
      terms_last = λ i. cond (h i) (guard_at s max_channels) (guard_field s);
      small_unused = λ t x. (λ i. ltb x (cond (h i) max_channels 1)) ∙ zero_below_one x;
      no_fault = λ i.
          lowest (λ c. is_guard (cond (h i) (byte s (guard_at s c)) no_guard)) 0 max_channels;
      one_channel = λ i. cond (h i) max_channels 1;
      none_guarded = λ c i. guard_in (cond (h i) (byte s (guard_at s c)) no_guard);
    }

-- ---- the posts of the program
module _ (s : List ℕ) (w : WellFormed s) (Q : ℕ → Option ℕ → Type 0) (each : (x : ℕ) → x < channels s → Q x (guard_of s x)) where
  module _ (f : ℕ → Term) (t : ℕ) (under : (y : ℕ) → y < t → EveryPost Q (f y)) where
    node_posts : (k : Kind) (x a b c : ℕ) → Below (format k) t a b c → ((format k).small ≡ channel → x < channels s)
        → EveryPost Q (node (guard_of s) k t x a b c f)
    node_posts Boolean x a b c v h = tt
    node_posts Number x a b c v h = tt
    node_posts Variable x a b c v h = tt
    node_posts Function x a b c v h = under b (v.second_below refl)
    node_posts Letrec x a b c v h = (under b (v.second_below refl), under c (v.third_below refl))
    node_posts Call x a b c v h = (under a (v.first_below refl), under b (v.second_below refl))
    node_posts If x a b c v h = (under a (v.first_below refl), under b (v.second_below refl), under c (v.third_below refl))
    node_posts Check x a b c v h = under a (v.first_below refl)
    node_posts Enable x a b c v h = under a (v.first_below refl)
    node_posts Sign x a b c v h = under a (v.first_below refl)
    node_posts Test x a b c v h = (under a (v.first_below refl), under b (v.second_below refl))
    node_posts Sum x a b c v h = (under a (v.first_below refl), under b (v.second_below refl))
    node_posts Difference x a b c v h = (under a (v.first_below refl), under b (v.second_below refl))
    node_posts Less x a b c v h = (under a (v.first_below refl), under b (v.second_below refl))
    node_posts Post x a b c v h = (each x (h refl), under a (v.first_below refl))

  tree_posts : (k t : ℕ) → t < terms s → t < k → EveryPost Q (tree_to s k t)
  tree_posts zero t l h = absurd (omega arith)
  tree_posts (suc k) t l h =
      node_posts (λ y. tree_to s k y) t (λ y g. tree_posts k y (omega arith) (omega arith)) (kind_of (kind_byte s t)) (small s t) (first s t) (second s t)
      (third s t) (below s w t l) (channel_in s w t l)

  program_posts : EveryPost Q (program s)
  program_posts = tree_posts (suc (root s)) (root s) (root_lower s w) (omega arith)

-- "a channel, 0 to 15", and "a privilege 0 to 31, or 255 for none"
pub record PostInInterval (ch : ℕ) (g : Option ℕ) : Type 0 where
  pub channel_in : ch < max_channels
  pub privilege_in : (p : ℕ) → g ≡ some p → p < privilege_count

pub program_in_range : (s : List ℕ) → WellFormed s → EveryPost PostInInterval (program s)
program_in_range s w =
    program_posts s w PostInInterval
    (λ x l. let h : x < max_channels = omega (arith, channels_most s) in record { channel_in = h; privilege_in = λ p e. guard_below s w x h p e })

pub program_unguarded : (s : List ℕ) → WellFormed s → version s ≡ 1 → Unguarded (program s)
program_unguarded s w one =
    program_posts s w Plain (λ x l. let g = without_guards s one in (omega (arith, l, g.one_channel), g.none_guarded x))
