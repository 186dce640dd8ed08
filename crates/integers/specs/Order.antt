-- The order of ℤ, least and greatest of two, and the numbers of 32 signed bits.
-- An integer is `up` less `dn`, of which one is 0, so that `a` is at most `b` exactly if `up a + dn b ≤ up b + dn a`: linear over ℕ,
-- and `omega` does all order reasoning. That this is the library's `◌≤ℤ◌` is `Le-is` of proofs/OrderLaws.antt.
use Rattle.std.specs.Prelude.{ℕ, suc, ◌+◌, ◌≤◌, ◌<◌, Bool, false, cond, ◌&&◌, eqb, ℤ, pos, negsuc}
use Rattle.std.specs.Int.Signed.{lt_z, le_z}

abbrev pub up : ℤ → ℕ
up (pos n) = n
up (negsuc n) = 0

abbrev pub dn : ℤ → ℕ
dn (pos n) = 0
dn (negsuc n) = suc n

abbrev pub Le : ℤ → ℤ → Type 0
Le a b = up a + dn b ≤ up b + dn a

abbrev pub Lt : ℤ → ℤ → Type 0
Lt a b = up a + dn b < up b + dn a

-- z lies between two ends, both included
abbrev pub Between : ℤ → ℤ → ℤ → Type 0
Between low high z = Le low z × Le z high

-- the test of equality
abbrev pub eq_z : ℤ → ℤ → Bool
eq_z (pos a) (pos b) = eqb a b
eq_z (pos a) (negsuc b) = false
eq_z (negsuc a) (pos b) = false
eq_z (negsuc a) (negsuc b) = eqb a b

unfoldable pub min_z : ℤ → ℤ → ℤ
min_z a b = cond (lt_z a b) a b

unfoldable pub max_z : ℤ → ℤ → ℤ
max_z a b = cond (lt_z a b) b a

-- i32::MIN and i32::MAX
abbrev pub least32 : ℤ
least32 = negsuc 2147483647

abbrev pub greatest32 : ℤ
greatest32 = pos 2147483647

-- 01: "A number here has 32 signed bits"
abbrev pub Number : ℤ → Type 0
Number z = Between least32 greatest32 z

-- the test of it: i32::try_from(z) gives a number
unfoldable pub number? : ℤ → Bool
number? z = le_z least32 z && le_z z greatest32
