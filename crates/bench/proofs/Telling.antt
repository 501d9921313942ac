-- What calls tell is sound: a slip fits, and one that is told to be passed meets its rules.
use Rattle.std.proofs.Common.{◌≡◌, ◌∙◌, ℕ, ◌≤◌, List, [], ◌∷◌, Ok, Err, Result, ⊎_elim, subst, sym, arith}
use Rattle.std.specs.Borrow.{Bor}
use Rattle.bench.specs.Slips.{Fits}
use Rattle.bench.specs.Tellings.{Call, Status, Follows, Has, Sound, Tells}
use Rattle.bench.specs.declared.verdicts.Verdict.{Verdict}
use Rattle.chart.specs.Automata.{Automaton}
use Rattle.bench.specs.declared.faults.BenchFault.{BenchFault}
use Rattle.bench.specs.declared.faults.BenchFault.TheVariants as faults
use Rattle.records.specs.declared.faults.SearchFault.TheVariants.{Full}
use Rattle.rank.specs.Containment.{Charts}
use Rattle.rank.specs.Ranked.{ranked_graph}
use Rattle.records.specs.declared.record.Record.{Record}
use Rattle.slip.specs.Certificates.{Certificate}
use Rattle.slip.specs.Rules.{Meets}
use Rattle.bench.proofs.Showing.{meets_shows}

pub has_drafted : (x c : Certificate) → Has (Status.drafted x) c → x ≡ c
has_drafted x c = ⊎_elim (λ (e : Status.drafted x ≡ Status.drafted c). cc) (λ (e : Status.drafted x ≡ Status.passed c). absurd (cc))

pub has_passed : (x c : Certificate) → Has (Status.passed x) c → x ≡ c
has_passed x c = ⊎_elim (λ (e : Status.passed x ≡ Status.drafted c). absurd (cc)) (λ (e : Status.passed x ≡ Status.passed c). cc)

pub has_some : (s : Status) (c : Certificate) → Has s c → s ≡ Status.empty → ⊥
has_some s c has none =
    ⊎_elim (λ (e : s ≡ Status.drafted c). let x = sym e ∙ none in absurd (cc))
    (λ (e : s ≡ Status.passed c). let x = sym e ∙ none in absurd (cc)) has

module _ (a b : Automaton) (room : ℕ) where
  abbrev pub Good : Status → Type 0
  Good Status.empty = Unit {0}
  Good (Status.drafted c) = Fits room c
  Good (Status.passed c) = Fits room c × Meets (ranked_graph a b) c

  pub has_fits : (s : Status) (c : Certificate) → Has s c → Good s → Fits room c
  has_fits s c has good =
      ⊎_elim (λ (e : s ≡ Status.drafted c). subst Good e good) (λ (e : s ≡ Status.passed c). (subst Good e good).0) has

  stays : (was now : Status) → now ≡ was → Good was → Good now
  stays was now e good = subst Good (sym e) good

  judge_good : (table : List Record) (r : Result Verdict BenchFault) (was now : Status) → Follows a b room (Call.judge table r) was now → Good was → Good now
  judge_good table (Ok v) was now f good = subst Good (sym f.1.2) f.1.1.drafts.fits
  judge_good table (Err faults.Room) was now f good = stays was now f good
  judge_good table (Err faults.Occupied) was now f good = stays was now f.1 good
  judge_good table (Err (faults.Search Full)) was now f good = stays was now f.2 good
  judge_good table (Err e) was now f good = absurd f

  put_good : (c : Certificate) (r : Result (Unit {0}) BenchFault) (was now : Status) → Follows a b room (Call.put c r) was now → Good was → Good now
  put_good c (Ok u) was now f good = subst Good (sym f.2) f.1
  put_good c (Err faults.Room) was now f good = stays was now f good
  put_good c (Err faults.Occupied) was now f good = stays was now f.1 good
  put_good c (Err faults.Shape) was now f good = stays was now f.2 good
  put_good c (Err e) was now f good = absurd f

  inspect_good : (r : Result (Unit {0}) BenchFault) (was now : Status) → Follows a b room (Call.inspect r) was now → Good was → Good now
  inspect_good (Ok u) was now f good = subst Good (sym f.3) (has_fits was f.0 f.1 good, f.2)
  inspect_good (Err faults.Room) was now f good = stays was now f good
  inspect_good (Err faults.Vacant) was now f good = stays was now f.1 good
  inspect_good (Err (faults.Broken breach)) was now f good = subst Good (sym f.3) (has_fits was f.0 f.1 good)
  inspect_good (Err e) was now f good = absurd f

  -- release tells nothing new
  pub release_same : (r : Result (Bor (List Record)) BenchFault) (was now : Status) → Follows a b room (Call.release r) was now → now ≡ was
  release_same (Ok out) was now f = f.3
  release_same (Err faults.Room) was now f = f
  release_same (Err faults.Vacant) was now f = f.1
  release_same (Err faults.Unpassed) was now f = f.1
  release_same (Err e) was now f = absurd f

  good_next : (call : Call) (was now : Status) → Follows a b room call was now → Good was → Good now
  good_next (Call.judge table r) was now f good = judge_good table r was now f good
  good_next (Call.put c r) was now f good = put_good c r was now f good
  good_next (Call.inspect r) was now f good = inspect_good r was now f good
  good_next (Call.release r) was now f good = stays was now (release_same r was now f) good
  good_next Call.clear was now f good = subst Good (sym f) (tt {0})

  pub told_good : (calls : List Call) (told : Status) → Tells a b room calls told → Good told
  told_good [] told t = subst Good (sym t) (tt {0})
  told_good (call ∷ calls) told t = good_next call t.0 told t.2 (told_good calls t.0 t.1)

  good_sound : Charts a b → room ≤ 65536 → (told : Status) → Good told → Sound a b told
  good_sound charts allowed Status.empty good = tt {0}
  good_sound charts allowed (Status.drafted c) good = tt {0}
  good_sound charts allowed (Status.passed c) good =
      let few = good.0.few in
      meets_shows a b charts c (record { placed = good.0.placed; few = omega (arith, few, allowed) }) good.1

  pub told_sound : Charts a b → room ≤ 65536 → (calls : List Call) (told : Status) → Tells a b room calls told → Sound a b told
  told_sound charts allowed calls told t = good_sound charts allowed told (told_good calls told t)
