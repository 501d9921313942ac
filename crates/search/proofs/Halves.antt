-- A measure that holds a parent's place and a low link.
use Rattle.std.proofs.Common.{◌≡◌, ℕ, ◌+◌, ◌*◌, ◌/◌, ◌%◌, ◌<◌, arith}

pub low_of : (p l : ℕ) → l < 65536 → (p * 65536 + l) % 65536 ≡ l
low_of p l h = omega arith

pub up_of : (p l : ℕ) → l < 65536 → (p * 65536 + l) / 65536 ≡ p
up_of p l h = omega arith
