-- 01's limits, and 02's, each named once; every other file cites them.
use Rattle.std.specs.Prelude.{ℕ, ◌+◌, ◌*◌}

-- "1 to 32 principals", "2 to 256 types", "1 to 1,024 terms"
abbrev pub max_principals : ℕ
max_principals = 32

abbrev pub max_types : ℕ
max_types = 256

abbrev pub max_terms : ℕ
max_terms = 1024

-- "privilege k, 0 to 31": the last of `privilege_count`
abbrev pub max_privilege : ℕ
max_privilege = 31

-- 02, W8: "a channel, 0 to 15"; "for each channel a privilege 0 to 31, or 255 for none"
abbrev pub max_channels : ℕ
max_channels = 16

abbrev pub no_guard : ℕ
no_guard = 255

-- Bytes of the longest sheet. Of version 1, 10,894: the version, the principals, the types and the terms, a field each with a header of three bytes. 02, W8:
-- "The program reads up to 10,913 bytes", the fifth field with a byte for each channel.
abbrev pub max_sheet1 : ℕ
max_sheet1 = 4 * 3 + 2 + 4 * max_principals + 10 * max_types + 8 * max_terms

abbrev pub max_sheet : ℕ
max_sheet = max_sheet1 + 3 + max_channels

-- of types, "nested at most 12 deep"; of terms, "Nesting is at most 32"
abbrev pub max_type_depth : ℕ
max_type_depth = 12

abbrev pub max_nesting : ℕ
max_nesting = 32

-- the numbers of a sheet: "number: first, 0 to 65,535", "Sums are held at 65,535"
abbrev pub max_number : ℕ
max_number = 65535

-- a start stack of 16 frames; "A frame is two 32-bit numbers"
abbrev pub max_start_frames : ℕ
max_start_frames = 16

abbrev pub max_start : ℕ
max_start = 2 * max_start_frames

-- the buffers of a run: bytes of the cell store, entries of the list of posts, numbers of a lazy run's frame store
abbrev pub max_cells : ℕ
max_cells = 65536

abbrev pub max_posts : ℕ
max_posts = 256

abbrev pub frame_numbers : ℕ
frame_numbers = 6496

-- the allowances: "calls over 4,096 or open calls over 100"
abbrev pub max_calls : ℕ
max_calls = 4096

abbrev pub max_depth : ℕ
max_depth = 100

-- The frames of the deepest lazy run: those of the start stack, and as many as terms nest for the root and for each open call. Two numbers each make the 6,496
-- of its store (`refinement`, Laws/Controls: frames_fit).
abbrev pub max_frames : ℕ
max_frames = max_start_frames + (max_depth + 1) * max_nesting

-- The most evaluations of terms in a run: a term is evaluated at most once outside of calls and once in each call, so they are 4,195,328, which is below 2^32.
-- So many sums and differences are held at most (02, W10), and so many decisions recorded (02, W12).
abbrev pub max_evaluations : ℕ
max_evaluations = (max_calls + 1) * max_terms
