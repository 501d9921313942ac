-- The parts that are read from a number are those that it tells.
use Rattle.std.proofs.Common.{◌≡◌, ℕ, ◌+◌, ◌*◌, ◌/◌, ◌%◌, ◌^◌, ◌&&◌, eqb, sym, ap, ◌∙◌, arith}
use Rattle.std.proofs.Math.Nat.{div-one}
use Rattle.std.proofs.lemmas.Bool.{lt-ltb}
use Rattle.std.proofs.lemmas.Nat.{shr-shr}
use Rattle.numbers.specs.Bits.{bit}
use Rattle.rank.specs.Layout.{rank_held}
use Rattle.rank.proofs.Fields.{bits_low}
use Rattle.ranked.specs.declared.nodes.Parts.{Parts}
use Rattle.ranked.specs.Digits.{digit}
use Rattle.ranked.specs.Reads.{Reads}

pub reads : (v : ℕ) (p : Parts) → p.duty ≡ v % 32 → p.turn ≡ eqb (v / 32 % 2) 1 → p.owed ≡ v / 64 % 64 → p.ranks ≡ v / 4096 → Reads v p
reads v p duty turn owed ranks =
    record {
      duty = duty ∙ ap (λ x. x % 32) (sym (div-one v));
      turn = turn;
      owed =
          λ q h. ap (λ x. bit x q) owed
          ∙ (ap (λ x. eqb x 1) (bits_low (v / 64) 6 q 1 (omega arith))
          ∙ (ap (λ x. eqb (x % 2) 1) (shr-shr v 6 q) ∙ ap (λ t. t && eqb (v / 2 ^ (6 + q) % 2) 1) (sym (lt-ltb q 6 h))));
      rank = λ q. ap (λ x. rank_held (digit x q)) ranks ∙ ap (λ x. rank_held (x % 16)) (shr-shr v 12 (4 * q));
      small_owed = omega arith;
    }
