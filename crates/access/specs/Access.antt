-- Access control as one number. An eager run holds a pair: the set that the signing principal may use, and 2^32 times the granted set. A lazy run holds
-- how many numbers of its frame store are in use, two for each frame: the set that its principal may use, and the enabled set.
use Rattle.std.specs.Prelude.{ℕ, zero, suc, ◌+◌, ◌*◌, ◌/◌, ◌%◌, Bool, true, false, cond, List, length, nat_le, slice_index, slice_set}
use Rattle.privileges.specs.Sets.{has, meet, insert}
use Rattle.access.specs.declared.Mode.{Mode}

abbrev pub packed : (low high : ℕ) → ℕ
packed low high = low + 4294967296 * high

abbrev pub low_of : ℕ → ℕ
low_of access = access % 4294967296

abbrev pub high_of : ℕ → ℕ
high_of access = access / 4294967296

-- whether the frames in the first numbers grant p, the last of them being the innermost
unfoldable pub walk_grants : (frames : List ℕ) (used p : ℕ) → Bool
walk_grants f zero p = false
walk_grants f (suc zero) p = false
walk_grants f (suc (suc d)) p = cond (has p (slice_index f d)) (cond (has p (slice_index f (d + 1))) true (walk_grants f d p)) false

unfoldable pub frames_grant : (frames : List ℕ) (used p : ℕ) → Bool
frames_grant f used p = cond (nat_le used (length f)) (walk_grants f used p) false

unfoldable pub granted_of : (lazy : Bool) (access : ℕ) (frames : List ℕ) (p : ℕ) → Bool
granted_of lazy access f p = cond lazy (frames_grant f (low_of access) p) (has p (high_of access))

unfoldable pub allowed_of : Mode → (access : ℕ) (frames : List ℕ) (p : ℕ) → Bool
allowed_of mode access f p = cond mode.enforce (granted_of mode.lazy access f p) true

unfoldable pub sign_access : (lazy : Bool) (access authorised : ℕ) → ℕ
sign_access lazy access authorised = cond lazy (low_of access + 2) (packed authorised (meet (high_of access) authorised))

unfoldable pub sign_frames : (lazy : Bool) (access : ℕ) (frames : List ℕ) (authorised : ℕ) → List ℕ
sign_frames lazy access f authorised = cond lazy (slice_set (slice_set f (low_of access) authorised) (low_of access + 1) 0) f

-- the last number of so many: with none, 2^64 - 1, an index that is past every store
unfoldable pub last_of : ℕ → ℕ
last_of zero = 18446744073709551615
last_of (suc d) = d

-- where the first frame has its enabled set
abbrev pub first_enabled : (access : ℕ) → ℕ
first_enabled access = last_of (low_of access)

unfoldable pub enable_access : (lazy : Bool) (access p : ℕ) → ℕ
enable_access lazy access p = cond lazy access (cond (has p (low_of access)) (packed (low_of access) (insert p (high_of access))) access)

unfoldable pub enable_frames : (lazy : Bool) (access : ℕ) (frames : List ℕ) (p : ℕ) → List ℕ
enable_frames lazy access f p = cond lazy (slice_set f (first_enabled access) (insert p (slice_index f (first_enabled access)))) f

unfoldable pub enabled_now : (lazy : Bool) (access : ℕ) (frames : List ℕ) → ℕ
enabled_now lazy access f = cond lazy (slice_index f (first_enabled access)) 0

unfoldable pub restore_frames : (lazy : Bool) (access : ℕ) (frames : List ℕ) (old : ℕ) → List ℕ
restore_frames lazy access f old = cond lazy (slice_set f (first_enabled access) old) f
