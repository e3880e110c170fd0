-- The walk over the frames, frame by frame, and what each step of access control gives in a lazy run and in an eager one. Assumes nothing.
use Rattle.std.proofs.Common.{◌≡◌, ℕ, zero, suc, ◌+◌, ◌-◌, ◌%◌, ◌<◌, ◌≤◌, Bool, true, false, cond, List, length, get_or, set, sym, refl, ◌∙◌, arith, le-leb}
use borrow.Author.Tests.{lt-leb}
use Rattle.privileges.specs.Sets.{has, meet, insert}
use Rattle.access.specs.Access.{packed, low_of, high_of, walk_grants, frames_grant, granted_of, sign_access, sign_frames, last_of, first_enabled, enable_access, enable_frames, enabled_now, restore_frames}
use Rattle.stores.specs.Returns.{Returned}

-- ---- the walk
module _ (f : List ℕ) (d p : ℕ) (h : 1 < d) where
  walk_step : walk_grants f d p ≡ cond (has p (get_or f (d - 2) 0)) (cond (has p (get_or f (d - 2 + 1) 0)) true (walk_grants f (d - 2) p)) false
  unfolding walk_grants
  walk_step = go d h
    where
      go : (d : ℕ) → 1 < d → walk_grants f d p ≡ cond (has p (get_or f (d - 2) 0)) (cond (has p (get_or f (d - 2 + 1) 0)) true (walk_grants f (d - 2) p)) false
      go zero h = absurd (omega arith)
      go (suc zero) h = absurd (omega arith)
      go (suc (suc k)) h = let e : suc (suc k) - 2 ≡ k = omega arith in rw e refl

  module _ {b : Bool} (g : b ≡ has p (get_or f (d - 2) 0)) where
    pub walk_no : b ≡ false → false ≡ walk_grants f d p
    walk_no e = sym (walk_step ∙ rw (← g, e) refl)

    module _ (e : b ≡ true) {b2 : Bool} (g2 : b2 ≡ has p (get_or f (d - 2 + 1) 0)) where
      pub walk_yes : b2 ≡ true → true ≡ walk_grants f d p
      walk_yes e2 = sym (walk_step ∙ rw (← g, e, ← g2, e2) refl)

      pub walk_next : b2 ≡ false → walk_grants f (d - 2) p ≡ walk_grants f d p
      walk_next e2 = sym (walk_step ∙ rw (← g, e, ← g2, e2) refl)

pub walk_done : (f : List ℕ) (d p : ℕ) → d ≤ 1 → false ≡ walk_grants f d p
unfolding walk_grants
walk_done f zero p h = refl
walk_done f (suc zero) p h = refl
walk_done f (suc (suc k)) p h = absurd (omega arith)

module _ (f : List ℕ) (used p : ℕ) where
  pub frames_short : length f < used → false ≡ frames_grant f used p
  unfolding frames_grant
  frames_short h = simp (lt-leb used (length f) h)

  pub frames_whole : used ≤ length f → walk_grants f used p ≡ frames_grant f used p
  unfolding frames_grant
  frames_whole h = sym (simp (le-leb used (length f) h))

-- the walk is down to the first d numbers, which decide as all that are in use
pub record WalkedTo (f : List ℕ) (used p d : ℕ) : Type 0 where
  pub below : d ≤ used
  pub rest_is : walk_grants f d p ≡ walk_grants f used p

-- one less, modulo 2^64
pub last_of_lem : (n : ℕ) → n < 18446744073709551616 → (n + 18446744073709551615) % 18446744073709551616 ≡ last_of n
unfolding last_of
last_of_lem zero h = omega arith
last_of_lem (suc d) h = omega arith

-- ---- in a lazy run, and in an eager one
module _ (lazy : Bool) (access : ℕ) (f : List ℕ) where
  module _ (is : lazy ≡ true) where
    pub granted_lazy : (p : ℕ) {l : ℕ} {r : Bool} → l ≡ low_of access → r ≡ frames_grant f l p → r ≡ granted_of lazy access f p
    unfolding granted_of
    granted_lazy p u e = e ∙ rw (u, is) refl

    pub sign_lazy : (authorised : ℕ) {l : ℕ} {g h : List ℕ} → l ≡ low_of access → g ≡ set f l authorised → h ≡ set g (l + 1) 0
        → Returned (l + 2) (sign_access lazy access authorised) h (sign_frames lazy access f authorised)
    unfolding sign_access sign_frames
    sign_lazy authorised t u v = record { answer_is = rw (t, is) refl; store_is = v ∙ rw (u, t, is) refl }

    -- i is where the first frame has its enabled set
    module _ {i : ℕ} (at : i ≡ first_enabled access) where
      pub enable_lazy : (p : ℕ) {old on : ℕ} {g : List ℕ} → old ≡ get_or f i 0 → on ≡ insert p old → g ≡ set f i on
          → Returned access (enable_access lazy access p) g (enable_frames lazy access f p)
      unfolding enable_access enable_frames
      enable_lazy p u v w = record { answer_is = sym (rw is refl); store_is = w ∙ rw (v, u, at, is) refl }

      pub enabled_lazy : {r : ℕ} → r ≡ get_or f i 0 → r ≡ enabled_now lazy access f
      unfolding enabled_now
      enabled_lazy e = e ∙ rw (at, is) refl

      pub restore_lazy : (old : ℕ) {g : List ℕ} → g ≡ set f i old → g ≡ restore_frames lazy access f old
      unfolding restore_frames
      restore_lazy old e = e ∙ rw (at, is) refl

  module _ (is : lazy ≡ false) where
    pub granted_eager : (p : ℕ) {h : ℕ} {r : Bool} → h ≡ high_of access → r ≡ has p h → r ≡ granted_of lazy access f p
    unfolding granted_of
    granted_eager p u e = e ∙ rw (u, is) refl

    pub sign_eager : (authorised : ℕ) {h r on : ℕ} → h ≡ high_of access → on ≡ meet h authorised → r ≡ packed authorised on
        → Returned r (sign_access lazy access authorised) f (sign_frames lazy access f authorised)
    unfolding sign_access sign_frames
    sign_eager authorised t u v = record { answer_is = v ∙ rw (u, t, is) refl; store_is = sym (rw is refl) }

    frames_stay : (p : ℕ) → f ≡ enable_frames lazy access f p
    unfolding enable_frames
    frames_stay p = sym (rw is refl)

    module _ (p : ℕ) {l : ℕ} {a : Bool} (low : l ≡ low_of access) (g : a ≡ has p l) where
      pub enable_yes : {h r on : ℕ} → a ≡ true → h ≡ high_of access → on ≡ insert p h → r ≡ packed l on
          → Returned r (enable_access lazy access p) f (enable_frames lazy access f p)
      unfolding enable_access
      enable_yes y t u v = record { answer_is = v ∙ rw (u, t, is, ← low, ← g, y) refl; store_is = frames_stay p }

      pub enable_no : a ≡ false → Returned access (enable_access lazy access p) f (enable_frames lazy access f p)
      unfolding enable_access
      enable_no y = record { answer_is = sym (rw (is, ← low, ← g, y) refl); store_is = frames_stay p }

    pub enabled_eager : 0 ≡ enabled_now lazy access f
    unfolding enabled_now
    enabled_eager = sym (rw is refl)

    pub restore_eager : (old : ℕ) → f ≡ restore_frames lazy access f old
    unfolding restore_frames
    restore_eager old = sym (rw is refl)
