use borrow.Author.Tests.{tests}
use Rattle.std.proofs.Common.{◌≡◌, Some, None, refl, arith, rules}
use Rattle.std.proofs.lemmas.Iterator.{YieldsList-from_slice, IsFirst-from_position}
use Rattle.std.proofs.lemmas.List.{take_rest}
use Rattle.text.proofs.Cuts.{cut_whole, cut_pieces, uncut_pieces}
use Rattle.text.proofs.words.Span.split_once.Goals as goal

pub returns-in_err-i : goal.returns-in_err-i
returns-in_err-i c =
    let none = IsFirst-from_position _ _ None (λ b. b ≡ c.args.at) (λ b. b ≡ c.args.at → ⊥) c.in_err-i.ensures.ran (YieldsList-from_slice c.args.self.text.now cc) (λ x q k. search (rules, tests)) (λ x q k. search (rules, tests)) in
    rw c.from_residual.ensures (uncut_pieces c.args.at c.args.self.text.now (λ k h. none k 0 (omega arith) h))

pub returns : goal.returns
returns c =
    let some = IsFirst-from_position _ _ (Some c.in_ok-i.i) (λ b. b ≡ c.args.at) (λ b. b ≡ c.args.at → ⊥) c.in_ok-i.ensures.ran (YieldsList-from_slice c.args.self.text.now cc) (λ x q k. search (rules, tests)) (λ x q k. search (rules, tests)) in
    record {
      joined = simp take_rest (cut_whole c.args.at c.args.self.text.now c.in_ok-i.i some.0 (some.1 0));
      parted =
          simp take_rest
          (cut_pieces c.args.at c.args.self.text.now c.in_ok-i.i some.0 (λ k h. some.2 k 0 (omega arith) h) (some.1 0));
      head_line = refl;
      rest_line = refl;
    }
