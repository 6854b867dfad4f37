-- The version of the library, by semantic versioning. A program that was compiled with the headers of one version compares.
-- Assumes nothing.
use Rattle.std.specs.Prelude.{ℕ, ◌+◌, ◌*◌}

-- calls, byte forms or states changed: from 1.0.0 on
abbrev pub major : ℕ
major = 0

-- calls came; before 1.0.0 also what is said of the major number
abbrev pub minor : ℕ
minor = 1

-- nothing of that changed
abbrev pub patch : ℕ
patch = 0

-- the three as one number
abbrev pub version : ℕ
version = 65536 * major + 256 * minor + patch
