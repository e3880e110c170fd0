-- The interpreter's two styles stand for the meaning's two access controls.
use Rattle.std.specs.Prelude.{Bool, ◌&&◌, ◌||◌, ◌≡◌, List, [], ◌∷◌, get_or, length, set}
use Rattle.std.proofs.Math.Bool.{true, false, cond}
use Rattle.std.proofs.Math.Path.{refl, ap, subst}
use Rattle.std.proofs.Common.{sym, ◌∙◌, arith, add-one, length-set, get_or-set_same, get_or-set_other, le-leb}
use Prim.Native.Nat.{ℕ, zero, suc, ◌+◌, ◌*◌, ◌<◌, ◌≤◌}
use Rattle.std.proofs.Math.Decide.{ℕ_discrete}
use Rattle.program.specs.Limits.{frame_numbers, max_frames}
use Rattle.privileges.specs.Sets.{has, meet, insert}
use Rattle.semantics.specs.Access.{Frame, frame, chk, enable_first, lazy_control, Rights, rights, add_authorised, eager_control}
use Rattle.access.specs.Access.{packed, low_of, high_of, walk_grants, frames_grant, granted_of, sign_access, sign_frames, last_of, enable_access, enable_frames, enabled_now, restore_frames}
use Rattle.refinement.proofs.Laws.Relation.{Fixed, FramesKept}
use Rattle.refinement.proofs.Laws.Steps.{Models}

-- ---- what each style does, at a number whose low half is known
module _ (lazy b : Bool) (style : lazy ≡ b) (access low : ℕ) (used : low_of access ≡ low) where
  granted_by : (f : List ℕ) (p : ℕ) → granted_of lazy access f p ≡ cond b (frames_grant f low p) (has p (high_of access))
  unfolding granted_of
  granted_by f p = λ i. cond (style i) (frames_grant f (used i) p) (has p (high_of access))

  sign_access_lem : (authorised : ℕ) → sign_access lazy access authorised ≡ cond b (low + 2) (packed authorised (meet (high_of access) authorised))
  unfolding sign_access
  sign_access_lem authorised = λ i. cond (style i) (used i + 2) (packed authorised (meet (high_of access) authorised))

  sign_frames_lem : (f : List ℕ) (authorised : ℕ) → sign_frames lazy access f authorised ≡ cond b (set (set f low authorised) (low + 1) 0) f
  unfolding sign_frames
  sign_frames_lem f authorised = λ i. cond (style i) (set (set f (used i) authorised) (used i + 1) 0) f

  enable_access_lem : (p : ℕ) → enable_access lazy access p ≡ cond b access (cond (has p low) (packed low (insert p (high_of access))) access)
  unfolding enable_access
  enable_access_lem p = λ i. cond (style i) access (cond (has p (used i)) (packed (used i) (insert p (high_of access))) access)

  enable_frames_lem : (f : List ℕ) (p : ℕ) → enable_frames lazy access f p ≡ cond b (set f (last_of low) (insert p (get_or f (last_of low) 0))) f
  unfolding enable_frames
  enable_frames_lem f p = λ i. cond (style i) (set f (last_of (used i)) (insert p (get_or f (last_of (used i)) 0))) f

  restore_frames_lem : (f g : List ℕ) → restore_frames lazy access g (enabled_now lazy access f)
      ≡ cond b (set g (last_of low) (get_or f (last_of low) 0)) g
  unfolding restore_frames enabled_now
  restore_frames_lem f g = (λ i. cond (style i) (set g (last_of (used i)) (cond (style i) (get_or f (last_of (used i)) 0) 0)) g) ∙ same b
    where
      same : (b : Bool) → cond b (set g (last_of low) (cond b (get_or f (last_of low) 0) 0)) g
          ≡ cond b (set g (last_of low) (get_or f (last_of low) 0)) g
      same true = refl
      same false = refl

-- ---- the eager style: a pair of the set that the signer may use and the granted set
pub record EagerMode (A : ℕ → ℕ) (a : Rights) (access : ℕ) : Type 0 where
  pub signing : low_of access ≡ A a.signer
  pub granting : high_of access ≡ a.granted

pub pair_mode : (A : ℕ → ℕ) (n authorised P g : ℕ) → authorised ≡ A n → authorised < 4294967296 → P ≡ g → EagerMode A (rights n g) (packed authorised P)
pair_mode A n authorised P g e i f = record { signing = omega arith; granting = omega arith }

module _ (z : Fixed) (style : z.mode.lazy ≡ false) where
  eager_enabled : (a : Rights) (access p : ℕ) → EagerMode z.authorised a access
      → EagerMode z.authorised (rights a.signer (add_authorised z.authorised a.signer p a.granted)) (enable_access z.mode.lazy access p)
  unfolding add_authorised
  eager_enabled a access p h =
      subst (EagerMode z.authorised _) (sym (enable_access_lem z.mode.lazy false style access (z.authorised a.signer) h.signing p))
      (go (has p (z.authorised a.signer)))
    where
      go : (c : Bool) → EagerMode z.authorised (rights a.signer (cond c (insert p a.granted) a.granted))
          (cond c (packed (z.authorised a.signer) (insert p (high_of access))) access)
      go true =
          pair_mode z.authorised a.signer (z.authorised a.signer) (insert p (high_of access)) (insert p a.granted) refl (omega (arith, h.signing))
          (λ i. insert p (h.granting i))
      go false = record { signing = h.signing; granting = h.granting }

  eager_unsigned : (access d : ℕ) (f g : List ℕ) (authorised : ℕ) → FramesKept (d + 1) (sign_frames z.mode.lazy access f authorised) g → FramesKept d f g
  eager_unsigned access d f g authorised k =
      let k' : FramesKept (d + 1) f g =
      subst (λ x. FramesKept (d + 1) x g) (sign_frames_lem z.mode.lazy false style access (low_of access) refl f authorised) k in
      record { long = k'.long; same = λ i h. k'.same i (omega arith) }

  pub eager_models : (enforce : Bool) → z.mode.enforce ≡ enforce
      → Models z (eager_control z.authorised) enforce (λ a access d f. EagerMode z.authorised a access)
  eager_models enforce checks = record {
    keeps = λ a access d f g h k. h;
    signed = λ a access d f n authorised h e i l.
        subst (EagerMode z.authorised _) (sym (sign_access_lem z.mode.lazy false style access (low_of access) refl authorised))
        (pair_mode z.authorised n authorised (meet (high_of access) authorised) (meet a.granted (z.authorised n)) e i (λ j. meet (h.granting j) (e j)));
    enabled = λ a access d f p h l. eager_enabled a access p h;
    grants = λ a access d f p h l. granted_by z.mode.lazy false style access (low_of access) refl f p ∙ (λ i. has p (h.granting i));
    enforces = checks;
    unsigned = λ a access d f g authorised h k. eager_unsigned access d f g authorised k;
    undone = λ a access d f g p h l k.
        subst (FramesKept d f) (sym (restore_frames_lem z.mode.lazy false style access (low_of access) refl f g))
        (subst (λ x. FramesKept d x g) (enable_frames_lem z.mode.lazy false style access (low_of access) refl f p) k);
  }

-- ---- the lazy style: the first d frames of the list, the outermost first
pub data Frames (A : ℕ → ℕ) (f : List ℕ) : (d : ℕ) → List Frame → Type 0 where
  no_frames : Frames A f 0 []
  a_frame : {d : ℕ} {x : Frame} {xs : List Frame} → get_or f (d * 2) 0 ≡ A x.principal → get_or f (d * 2 + 1) 0 ≡ x.enabled → Frames A f d xs
      → Frames A f (suc d) (x ∷ xs)

-- the store has room for every frame
pub frames_fit : frame_numbers ≡ 2 * max_frames
frames_fit = refl

pub record LazyMode (A : ℕ → ℕ) (a : List Frame) (access d : ℕ) (f : List ℕ) : Type 0 where
  pub used : low_of access ≡ d * 2
  pub long : length f ≡ frame_numbers
  pub frames : Frames A f d a

abbrev signed_frames : ℕ → List ℕ → ℕ → List ℕ
signed_frames d f authorised = set (set f (d * 2) authorised) (d * 2 + 1) 0

-- a sign leaves the frames before its own
signed_same : (d : ℕ) (f : List ℕ) (authorised i : ℕ) → i < 2 * d → get_or (signed_frames d f authorised) i 0 ≡ get_or f i 0
signed_same d f authorised i h =
    get_or-set_other (set f (d * 2) authorised) (d * 2 + 1) i 0 0 (λ e. omega arith) ∙ get_or-set_other f (d * 2) i authorised 0 (λ e. omega arith)

last_is : (d : ℕ) → last_of (suc d * 2) ≡ d * 2 + 1
unfolding last_of
last_is d = ap last_of {x = suc d * 2} {y = suc (d * 2 + 1)} (omega arith)

-- the first frame's enabled set is put back
enable_kept : (d : ℕ) (f g : List ℕ) (v : ℕ) → d * 2 ≤ length f → FramesKept d (set f (last_of (d * 2)) v) g
    → FramesKept d f (set g (last_of (d * 2)) (get_or f (last_of (d * 2)) 0))
enable_kept zero f g v l k = record { long = simp length-set (k.long ∙ simp length-set); same = λ i h. absurd (omega arith) }
enable_kept (suc d) f g v l k = subst (λ at. FramesKept (suc d) (set f at v) g → FramesKept (suc d) f (set g at (get_or f at 0))) (sym (last_is d)) go k
  where
    go : FramesKept (suc d) (set f (d * 2 + 1) v) g → FramesKept (suc d) f (set g (d * 2 + 1) (get_or f (d * 2 + 1) 0))
    go k = record {
      long = length-set g (d * 2 + 1) (get_or f (d * 2 + 1) 0) ∙ k.long ∙ length-set f (d * 2 + 1) v;
      same = λ i h. elim (ℕ_discrete i (d * 2 + 1)) [
        | yes e ↦ subst (λ x. get_or (set g (d * 2 + 1) (get_or f (d * 2 + 1) 0)) x 0 ≡ get_or f x 0) (sym e)
            (get_or-set_same g (d * 2 + 1) (get_or f (d * 2 + 1) 0) 0 (omega (arith, k.long, length-set f (d * 2 + 1) v)))
        | no x ↦ get_or-set_other g (d * 2 + 1) i (get_or f (d * 2 + 1) 0) 0 x ∙ k.same i h ∙ get_or-set_other f (d * 2 + 1) i v 0 x
      ];
    }

granted_step : (a b c : Bool) → cond a (cond b true c) false ≡ (a && (b || c))
granted_step true true c = refl
granted_step true false c = refl
granted_step false b c = refl

module _ (A : ℕ → ℕ) (f : List ℕ) where
  frames_same : (g : List ℕ) {d : ℕ} {xs : List Frame} → Frames A f d xs → ((i : ℕ) → i < 2 * d → get_or g i 0 ≡ get_or f i 0) → Frames A g d xs
  frames_same g no_frames h = no_frames
  frames_same g (a_frame {d = d} p q r) h = a_frame (h (d * 2) (omega arith) ∙ p) (h (d * 2 + 1) (omega arith) ∙ q) (frames_same g r (λ i l. h i (omega arith)))

  frames_sign : (n authorised d : ℕ) (xs : List Frame) → authorised ≡ A n → d * 2 + 1 < length f → Frames A f d xs
      → Frames A (signed_frames d f authorised) (d + 1) (frame n 0 ∷ xs)
  frames_sign n authorised d xs e l h =
      subst (λ k. Frames A (signed_frames d f authorised) k (frame n 0 ∷ xs)) (sym (add-one d))
      (a_frame (get_or-set_other (set f (d * 2) authorised) (d * 2 + 1) (d * 2) 0 0 (λ e. omega arith)
      ∙ get_or-set_same f (d * 2) authorised 0 (omega arith) ∙ e)
      (get_or-set_same (set f (d * 2) authorised) (d * 2 + 1) 0 0 (omega (arith, length-set f (d * 2) authorised)))
      (frames_same (signed_frames d f authorised) h (signed_same d f authorised)))

  abbrev enabled_frames : (at p : ℕ) → List ℕ
  enabled_frames at p = set f at (insert p (get_or f at 0))

  frames_enable : (p : ℕ) {d : ℕ} {xs : List Frame} → Frames A f d xs → d * 2 ≤ length f
      → Frames A (enabled_frames (last_of (d * 2)) p) d (enable_first p xs)
  frames_enable p no_frames l = no_frames
  frames_enable p (a_frame {d = d} {x = x} {xs = xs} e g h) l =
      subst (λ at. Frames A (enabled_frames at p) (suc d) (enable_first p (x ∷ xs))) (sym (last_is d))
      (a_frame (get_or-set_other f (d * 2 + 1) (d * 2) (insert p (get_or f (d * 2 + 1) 0)) 0 (λ e. omega arith) ∙ e)
      (get_or-set_same f (d * 2 + 1) (insert p (get_or f (d * 2 + 1) 0)) 0 (omega arith) ∙ (λ i. insert p (g i)))
      (frames_same _ h (λ i k. get_or-set_other f (d * 2 + 1) i (insert p (get_or f (d * 2 + 1) 0)) 0 (λ e. omega arith))))

  frames_walk : (p : ℕ) {d : ℕ} {xs : List Frame} → Frames A f d xs → walk_grants f (d * 2) p ≡ chk A xs p
  unfolding walk_grants
  frames_walk p no_frames = refl
  frames_walk p (a_frame {d = d} {x = x} {xs = xs} e g h) =
      ap (λ n. walk_grants f n p) {x = suc d * 2} {y = suc (suc (d * 2))} (omega arith)
      ∙ granted_step (has p (get_or f (d * 2) 0)) (has p (get_or f (d * 2 + 1) 0)) (walk_grants f (d * 2) p)
      ∙ (λ i. has p (e i) && (has p (g i) || frames_walk p h i))

  frames_grant_lem : (p : ℕ) {d : ℕ} {xs : List Frame} → Frames A f d xs → d * 2 ≤ length f → frames_grant f (d * 2) p ≡ chk A xs p
  unfolding frames_grant
  frames_grant_lem p {d} h l = (λ i. cond (le-leb (d * 2) (length f) l i) (walk_grants f (d * 2) p) false) ∙ frames_walk p h

module _ (z : Fixed) (style : z.mode.lazy ≡ true) where
  lazy_signed : (a : List Frame) (access d : ℕ) (f : List ℕ) (n authorised : ℕ) → LazyMode z.authorised a access d f → authorised ≡ z.authorised n
      → d < max_frames
      → LazyMode z.authorised (frame n 0 ∷ a) (sign_access z.mode.lazy access authorised) (d + 1) (sign_frames z.mode.lazy access f authorised)
  lazy_signed a access d f n authorised h e l =
      subst (λ x. LazyMode z.authorised (frame n 0 ∷ a) x (d + 1) (sign_frames z.mode.lazy access f authorised))
      (sym (sign_access_lem z.mode.lazy true style access (d * 2) h.used authorised))
      (subst (LazyMode z.authorised (frame n 0 ∷ a) (d * 2 + 2) (d + 1)) (sym (sign_frames_lem z.mode.lazy true style access (d * 2) h.used f authorised))
      record {
        used = omega arith;
        long = length-set (set f (d * 2) authorised) (d * 2 + 1) 0 ∙ length-set f (d * 2) authorised ∙ h.long;
        frames = frames_sign z.authorised f n authorised d a e (omega (arith, h.long)) h.frames;
      })

  lazy_enabled : (a : List Frame) (access d : ℕ) (f : List ℕ) (p : ℕ) → LazyMode z.authorised a access d f → d ≤ max_frames
      → LazyMode z.authorised (enable_first p a) (enable_access z.mode.lazy access p) d (enable_frames z.mode.lazy access f p)
  lazy_enabled a access d f p h l =
      subst (λ x. LazyMode z.authorised (enable_first p a) x d (enable_frames z.mode.lazy access f p))
      (sym (enable_access_lem z.mode.lazy true style access (d * 2) h.used p))
      (subst (LazyMode z.authorised (enable_first p a) access d) (sym (enable_frames_lem z.mode.lazy true style access (d * 2) h.used f p))
      record {
        used = h.used;
        long = length-set f (last_of (d * 2)) (insert p (get_or f (last_of (d * 2)) 0)) ∙ h.long;
        frames = frames_enable z.authorised f p h.frames (omega (arith, h.long));
      })

  lazy_unsigned : (a : List Frame) (access d : ℕ) (f g : List ℕ) (authorised : ℕ) → LazyMode z.authorised a access d f
      → FramesKept (d + 1) (sign_frames z.mode.lazy access f authorised) g
      → FramesKept d f g
  lazy_unsigned a access d f g authorised h k =
      let k' : FramesKept (d + 1) (signed_frames d f authorised) g = subst (λ x. FramesKept (d + 1) x g)
      (sign_frames_lem z.mode.lazy true style access (d * 2) h.used f authorised) k in
      record { long = k'.long ∙ simp length-set; same = λ i l. k'.same i (omega arith) ∙ signed_same d f authorised i l }

  pub lazy_models : (enforce : Bool) → z.mode.enforce ≡ enforce → Models z (lazy_control z.authorised) enforce (LazyMode z.authorised)
  lazy_models enforce checks = record {
    keeps = λ a access d f g h k. record { used = h.used; long = k.long ∙ h.long; frames = frames_same z.authorised f g h.frames k.same };
    signed = λ a access d f n authorised h e i l. lazy_signed a access d f n authorised h e l;
    enabled = lazy_enabled;
    grants =
        λ a access d f p h l. granted_by z.mode.lazy true style access (d * 2) h.used f p
        ∙ frames_grant_lem z.authorised f p h.frames (omega (arith, h.long));
    enforces = checks;
    unsigned = lazy_unsigned;
    undone = λ a access d f g p h l k.
        subst (FramesKept d f) (sym (restore_frames_lem z.mode.lazy true style access (d * 2) h.used f g))
        (enable_kept d f g (insert p (get_or f (last_of (d * 2)) 0)) (omega (arith, h.long))
        (subst (λ x. FramesKept d x g) (enable_frames_lem z.mode.lazy true style access (d * 2) h.used f p) k));
  }
