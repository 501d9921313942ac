-- What calls tell is a function of what was asked, of judge's answers and of the tables that it left, up to how many records a break
-- slip of judge has, and its loop place.
use Rattle.std.proofs.Common.{◌≡◌, ◌∙◌, ℕ, Bool, true, false, ◌<◌, List, [], ◌∷◌, length, take, Ok, Err, Result, ◌⊎◌, inl, inr, ⊎_elim, ap, refl, subst, sym, arith}
use Rattle.bench.specs.Histories.{Agrees, AlteredIsNotLedTo, OneTold}
use Rattle.bench.specs.Slips.{Fits, form_of}
use Rattle.bench.specs.Tellings.{Alike, AlikeSlips, AskedAlike, TwoBreakSlips, JudgedBreak, Call, First, Follows, Has, JudgeLeaves, SameCall, SameCalls, Status, Tells, is_wrong_size}
use Rattle.bench.specs.declared.benches.Bench.{Bench}
use Rattle.bench.specs.declared.states.State.{State}
use Rattle.bench.specs.declared.verdicts.Verdict.{Verdict}
use Rattle.bench.proofs.Telling.{has_drafted, has_passed, has_some, release_same}
use Rattle.chart.specs.Automata.{Automaton}
use Rattle.bench.specs.declared.faults.BenchFault.{BenchFault}
use Rattle.bench.specs.declared.faults.BenchFault.TheVariants as faults
use Rattle.records.specs.declared.faults.SearchFault.TheVariants.{Full}
use Rattle.rank.specs.Ranked.{ranked_graph}
use Rattle.slip.specs.declared.kinds.Kind.{Kind}
use Rattle.slip.specs.declared.kinds.Kind.TheVariants.{Keep, Break}
use Rattle.records.specs.declared.record.Record.{Record}
use Rattle.slip.specs.Certificates.{Certificate}
use Rattle.slip.specs.Rules.{Meets}
use Rattle.slip.specs.Shapes.{stems}
use Rattle.slip.proofs.Breaches.{met_or_broken}

-- two slips of one form, both in the first records of a table, are one
same_slip : (c d : Certificate) (table : List Record) → form_of c ≡ form_of d → First c table → First d table → c ≡ d
same_slip c d table e first second =
    let kind : c.kind ≡ d.kind = ap (λ f. f.kind) e in
    let stem : c.stem ≡ d.stem = ap (λ f. f.stem) e in
    let records : c.records ≡ d.records = sym first ∙ (ap (λ f. take f.count table) e ∙ second) in
    λ p. record { kind = kind p; stem = stem p; records = records p }

abbrev has_table : List Call → List Call → Type 0
has_table calls calls' = (table : List Record) → JudgedBreak calls table → JudgedBreak calls' table

module _ (a b : Automaton) (room : ℕ) where
  -- the freedom is that of the calls before, where the last call is neither a granted judge nor clear
  carried_slips : (calls calls' : List Call) → has_table calls calls' → (c d : Certificate) → AlikeSlips a b calls c d → AlikeSlips a b calls' c d
  carried_slips calls calls' on c d h =
      ⊎_elim (λ (e : c ≡ d). inl e)
      (λ (f : TwoBreakSlips a b calls c d). inr (record { table = f.table; broke = on f.table f.broke; left = f.left; right = f.right })) h

  carried : (calls calls' : List Call) → has_table calls calls' → (s t : Status) → Alike a b calls s t → Alike a b calls' s t
  carried calls calls' on Status.empty Status.empty h = tt {0}
  carried calls calls' on (Status.drafted c) (Status.drafted d) h = carried_slips calls calls' on c d h
  carried calls calls' on (Status.passed c) (Status.passed d) h = carried_slips calls calls' on c d h
  carried calls calls' on s t h = absurd h

  -- likeness of what is told, by what it is told to be
  alike_as : (calls : List Call) (s t now other : Status) → now ≡ s → other ≡ t → Alike a b calls s t → Alike a b calls now other
  alike_as calls s t now other e f h =
      subst (λ x. Alike a b calls x other) (sym e) (subst (λ y. Alike a b calls s y) (sym f) h)

  both_empty : (calls : List Call) (s t : Status) → Alike a b calls s t → (s ≡ Status.empty → t ≡ Status.empty) × (t ≡ Status.empty → s ≡ Status.empty)
  both_empty calls Status.empty Status.empty h = (λ e. refl, λ e. refl)
  both_empty calls (Status.drafted c) (Status.drafted d) h = (λ e. absurd (cc), λ e. absurd (cc))
  both_empty calls (Status.passed c) (Status.passed d) h = (λ e. absurd (cc), λ e. absurd (cc))
  both_empty calls s t h = absurd h

  slips_alike : (calls : List Call) (s t : Status) (c d : Certificate) → Alike a b calls s t → Has s c → Has t d → AlikeSlips a b calls c d
  slips_alike calls (Status.drafted x) (Status.drafted y) c d h left right =
      subst (λ z. AlikeSlips a b calls z d) (has_drafted x c left) (subst (λ z. AlikeSlips a b calls x z) (has_drafted y d right) h)
  slips_alike calls (Status.passed x) (Status.passed y) c d h left right =
      subst (λ z. AlikeSlips a b calls z d) (has_passed x c left) (subst (λ z. AlikeSlips a b calls x z) (has_passed y d right) h)
  slips_alike calls Status.empty Status.empty c d h left right = absurd (has_some Status.empty c left refl)
  slips_alike calls s t c d h left right = absurd h

  -- two slips that judge may have left with one verdict in one table
  module _ (table : List Record) (v : Verdict) (c d : Certificate) (left : JudgeLeaves a b room table v c) (right : JudgeLeaves a b room table v d) where
    no_stem : (x : Certificate) → JudgeLeaves a b room table v x → v.kind ≡ Keep → x.stem ≡ 0
    no_stem x j e =
        let placed = j.drafts.fits.placed in
        let low : x.stem < 1 = subst (λ k. x.stem < stems k (length x.records)) (j.drafts.kind ∙ e) placed in omega (arith, low)

    same_forms : v.kind ≡ Keep → form_of c ≡ form_of d
    same_forms e =
        let kind : c.kind ≡ d.kind = left.drafts.kind ∙ sym right.drafts.kind in
        let count : length c.records ≡ length d.records = (left.drafts.measured e).0 ∙ sym (right.drafts.measured e).0 in
        let stem : c.stem ≡ d.stem = no_stem c left e ∙ sym (no_stem d right e) in
        λ p. record { kind = kind p; count = count p; stem = stem p }

    judged_slips : (calls : List Call) (k : Kind) → v.kind ≡ k → AlikeSlips a b (Call.judge table (Ok v) ∷ calls) c d
    judged_slips calls Keep e = inl (same_slip c d table (same_forms e) left.first right.first)
    judged_slips calls Break e =
        inr (record {
          table = table;
          broke = (e, refl);
          left = record { kind = left.drafts.kind ∙ e; first = left.first; meets = left.drafts.meets };
          right = record { kind = right.drafts.kind ∙ e; first = right.first; meets = right.drafts.meets };
        })

  module _ (calls : List Call) (was before now other : Status) (h : Alike a b calls was before) where
    -- where nothing changes
    unchanged : (call : Call) → has_table calls (call ∷ calls) → now ≡ was → other ≡ before → Alike a b (call ∷ calls) now other
    unchanged call on e f = alike_as (call ∷ calls) was before now other e f (carried calls (call ∷ calls) on was before h)

    judge_alike : (table : List Record) (r : Result Verdict BenchFault) → Follows a b room (Call.judge table r) was now
        → Follows a b room (Call.judge table r) before other → Alike a b (Call.judge table r ∷ calls) now other
    judge_alike table (Ok v) f g =
        alike_as (Call.judge table (Ok v) ∷ calls) (Status.drafted f.1.0) (Status.drafted g.1.0) now other f.1.2 g.1.2
        (judged_slips table v f.1.0 g.1.0 f.1.1 g.1.1 calls v.kind refl)
    judge_alike table (Err faults.Room) f g = unchanged (Call.judge table (Err faults.Room)) (λ t x. x) f g
    judge_alike table (Err faults.Occupied) f g = unchanged (Call.judge table (Err faults.Occupied)) (λ t x. x) f.1 g.1
    judge_alike table (Err (faults.Search Full)) f g =
        unchanged (Call.judge table (Err (faults.Search Full))) (λ t x. x) f.2 g.2
    judge_alike table (Err e) f g = absurd f

  -- what put tells, by what was asked alone
  abbrev PutAsked : Certificate → Status → Status → Type 0
  PutAsked c was now =
      ((was ≡ Status.empty) × Fits room c × (now ≡ Status.drafted c)) ⊎ ((was ≡ Status.empty → Fits room c → ⊥) × (now ≡ was))

  put_asked : (c : Certificate) (r : Result (Unit {0}) BenchFault) (was now : Status) → is_wrong_size r ≡ false → Follows a b room (Call.put c r) was now
      → PutAsked c was now
  put_asked c (Ok u) was now e f = inl f
  put_asked c (Err faults.Room) was now e f = absurd (cc)
  put_asked c (Err faults.Occupied) was now e f = inr (λ x y. f.0 x, f.1)
  put_asked c (Err faults.Shape) was now e f = inr (λ x y. f.1 y, f.2)
  put_asked c (Err x) was now e f = absurd f

  put_wrong_size : (c : Certificate) (r : Result (Unit {0}) BenchFault) (was now : Status) → is_wrong_size r ≡ true → Follows a b room (Call.put c r) was now
      → now ≡ was
  put_wrong_size c (Err faults.Room) was now e f = f
  put_wrong_size c (Err faults.Occupied) was now e f = f.1
  put_wrong_size c (Err faults.Shape) was now e f = f.2
  put_wrong_size c (Ok u) was now e f = absurd (cc)
  put_wrong_size c (Err x) was now e f = absurd f

  -- what inspect tells, by what was asked alone
  pub record Examined (was now : Status) : Type 0 where
    pub slip : Certificate
    pub has : Has was slip
    pub told :
        (Meets (ranked_graph a b) slip × (now ≡ Status.passed slip))
        ⊎ ((Meets (ranked_graph a b) slip → ⊥) × (now ≡ Status.drafted slip))

  abbrev InspectAsked : Status → Status → Type 0
  InspectAsked was now = ((was ≡ Status.empty) × (now ≡ was)) ⊎ Examined was now

  inspect_asked : (r : Result (Unit {0}) BenchFault) (was now : Status) → is_wrong_size r ≡ false → Follows a b room (Call.inspect r) was now
      → InspectAsked was now
  inspect_asked (Ok u) was now e f = inr (record { slip = f.0; has = f.1; told = inl (f.2, f.3) })
  inspect_asked (Err faults.Room) was now e f = absurd (cc)
  inspect_asked (Err faults.Vacant) was now e f = inl f
  inspect_asked (Err (faults.Broken breach)) was now e f =
      inr (record {
        slip = f.0;
        has = f.1;
        told = inr (λ meets. met_or_broken (ranked_graph a b) f.0 breach meets f.2, f.3);
      })
  inspect_asked (Err x) was now e f = absurd f

  inspect_wrong_size : (r : Result (Unit {0}) BenchFault) (was now : Status) → is_wrong_size r ≡ true → Follows a b room (Call.inspect r) was now → now ≡ was
  inspect_wrong_size (Err faults.Room) was now e f = f
  inspect_wrong_size (Err faults.Vacant) was now e f = f.1
  inspect_wrong_size (Err (faults.Broken breach)) was now e f = absurd (cc)
  inspect_wrong_size (Ok u) was now e f = absurd (cc)
  inspect_wrong_size (Err x) was now e f = absurd f

  module _ (calls : List Call) (was before now other : Status) (h : Alike a b calls was before) where
    put_alike : (c : Certificate) (r : Result (Unit {0}) BenchFault) → PutAsked c was now → PutAsked c before other
        → Alike a b (Call.put c r ∷ calls) now other
    put_alike c r f g =
        ⊎_elim
        (λ (x : (was ≡ Status.empty) × Fits room c × (now ≡ Status.drafted c)).
        ⊎_elim
        (λ (y : (before ≡ Status.empty) × Fits room c × (other ≡ Status.drafted c)).
        alike_as (Call.put c r ∷ calls) (Status.drafted c) (Status.drafted c) now other x.2 y.2 (inl refl))
        (λ (y : (before ≡ Status.empty → Fits room c → ⊥) × (other ≡ before)).
        absurd (y.0 ((both_empty calls was before h).0 x.0) x.1)) g)
        (λ (x : (was ≡ Status.empty → Fits room c → ⊥) × (now ≡ was)).
        ⊎_elim
        (λ (y : (before ≡ Status.empty) × Fits room c × (other ≡ Status.drafted c)).
        absurd (x.0 ((both_empty calls was before h).1 y.0) y.1))
        (λ (y : (before ≡ Status.empty → Fits room c → ⊥) × (other ≡ before)).
        unchanged calls was before now other h (Call.put c r) (λ t z. z) x.1 y.1) g)
        f

    -- both slips meet the rules, or neither does
    meets_alike : (c d : Certificate) → AlikeSlips a b calls c d
        → (Meets (ranked_graph a b) c → Meets (ranked_graph a b) d) × (Meets (ranked_graph a b) d → Meets (ranked_graph a b) c)
    meets_alike c d =
        ⊎_elim (λ (e : c ≡ d). (subst (Meets (ranked_graph a b)) e, subst (Meets (ranked_graph a b)) (sym e)))
        (λ (f : TwoBreakSlips a b calls c d). (λ m. f.right.meets, λ m. f.left.meets))

    examined_alike : (r : Result (Unit {0}) BenchFault) → Examined was now → Examined before other → Alike a b (Call.inspect r ∷ calls) now other
    examined_alike r f g =
        let slips = slips_alike calls was before f.slip g.slip h f.has g.has in
        let meets = meets_alike f.slip g.slip slips in
        let after = carried_slips calls (Call.inspect r ∷ calls) (λ t z. z) f.slip g.slip slips in
        ⊎_elim
        (λ (x : Meets (ranked_graph a b) f.slip × (now ≡ Status.passed f.slip)).
        ⊎_elim
        (λ (y : Meets (ranked_graph a b) g.slip × (other ≡ Status.passed g.slip)).
        alike_as (Call.inspect r ∷ calls) (Status.passed f.slip) (Status.passed g.slip) now other x.1 y.1 after)
        (λ (y : (Meets (ranked_graph a b) g.slip → ⊥) × (other ≡ Status.drafted g.slip)). absurd (y.0 (meets.0 x.0))) g.told)
        (λ (x : (Meets (ranked_graph a b) f.slip → ⊥) × (now ≡ Status.drafted f.slip)).
        ⊎_elim
        (λ (y : Meets (ranked_graph a b) g.slip × (other ≡ Status.passed g.slip)). absurd (x.0 (meets.1 y.0)))
        (λ (y : (Meets (ranked_graph a b) g.slip → ⊥) × (other ≡ Status.drafted g.slip)).
        alike_as (Call.inspect r ∷ calls) (Status.drafted f.slip) (Status.drafted g.slip) now other x.1 y.1 after) g.told)
        f.told

    inspect_alike : (r : Result (Unit {0}) BenchFault) → InspectAsked was now → InspectAsked before other
        → Alike a b (Call.inspect r ∷ calls) now other
    inspect_alike r f g =
        ⊎_elim
        (λ (x : (was ≡ Status.empty) × (now ≡ was)).
        ⊎_elim
        (λ (y : (before ≡ Status.empty) × (other ≡ before)). unchanged calls was before now other h (Call.inspect r) (λ t z. z) x.1 y.1)
        (λ (y : Examined before other). absurd (has_some before y.slip y.has ((both_empty calls was before h).0 x.0))) g)
        (λ (x : Examined was now).
        ⊎_elim
        (λ (y : (before ≡ Status.empty) × (other ≡ before)). absurd (has_some was x.slip x.has ((both_empty calls was before h).1 y.0)))
        (λ (y : Examined before other). examined_alike r x y) g)
        f

    put_next : (c : Certificate) (r q : Result (Unit {0}) BenchFault) (x : Bool) → is_wrong_size r ≡ x → is_wrong_size q ≡ x
        → Follows a b room (Call.put c r) was now → Follows a b room (Call.put c q) before other → Alike a b (Call.put c r ∷ calls) now other
    put_next c r q true e f x y =
        unchanged calls was before now other h (Call.put c r) (λ t z. z) (put_wrong_size c r was now e x) (put_wrong_size c q before other f y)
    put_next c r q false e f x y = put_alike c r (put_asked c r was now e x) (put_asked c q before other f y)

    inspect_next : (r q : Result (Unit {0}) BenchFault) (x : Bool) → is_wrong_size r ≡ x → is_wrong_size q ≡ x
        → Follows a b room (Call.inspect r) was now → Follows a b room (Call.inspect q) before other
        → Alike a b (Call.inspect r ∷ calls) now other
    inspect_next r q true e f x y =
        unchanged calls was before now other h (Call.inspect r) (λ t z. z) (inspect_wrong_size r was now e x)
        (inspect_wrong_size q before other f y)
    inspect_next r q false e f x y = inspect_alike r (inspect_asked r was now e x) (inspect_asked q before other f y)

    alike_next : (call asked : Call) → SameCall call asked → Follows a b room call was now → Follows a b room asked before other
        → Alike a b (call ∷ calls) now other
    alike_next (Call.judge left r) (Call.judge right q) same f g =
        judge_alike calls was before now other h left r f
        (subst (λ t. Follows a b room (Call.judge t r) before other) (sym same.0)
        (subst (λ x. Follows a b room (Call.judge right x) before other) (sym same.1) g))
    alike_next (Call.put c r) (Call.put d q) same f g =
        put_next c r q (is_wrong_size r) refl (sym same.1) f (subst (λ x. Follows a b room (Call.put x q) before other) (sym same.0) g)
    alike_next (Call.inspect r) (Call.inspect q) same f g = inspect_next r q (is_wrong_size r) refl (sym same) f g
    alike_next (Call.release r) (Call.release q) same f g =
        unchanged calls was before now other h (Call.release r) (λ t z. z) (release_same a b room r was now f)
        (release_same a b room q before other g)
    alike_next Call.clear Call.clear same f g = alike_as (Call.clear ∷ calls) Status.empty Status.empty now other f g (tt {0})
    alike_next call asked same f g = absurd same

  alike : (calls others : List Call) (told other : Status) → SameCalls calls others → Tells a b room calls told → Tells a b room others other
      → Alike a b calls told other
  alike [] [] told other same t u = alike_as [] Status.empty Status.empty told other t u (tt {0})
  alike (call ∷ calls) (asked ∷ others) told other same t u =
      alike_next calls t.0 u.0 told other (alike calls others t.0 u.0 same.1 t.1 u.1) call asked same.0 t.2 u.2
  alike calls others told other same t u = absurd same

  one_slip : (calls : List Call) (c d : Certificate) → AlikeSlips a b calls c d → form_of c ≡ form_of d → c ≡ d
  one_slip calls c d h forms =
      ⊎_elim (λ (e : c ≡ d). e) (λ (f : TwoBreakSlips a b calls c d). same_slip c d f.table forms f.left.first f.right.first) h

  one : (calls : List Call) (told other : Status) (s : State) (table mine : List Record) → Alike a b calls told other → Agrees told s table
      → Agrees other s mine → other ≡ told
  one calls Status.empty Status.empty s table mine h g k = refl
  one calls (Status.drafted c) (Status.drafted d) s table mine h g k =
      let forms : form_of c ≡ form_of d = let x = sym g.0 ∙ k.0 in cc in ap Status.drafted (sym (one_slip calls c d h forms))
  one calls (Status.passed c) (Status.passed d) s table mine h g k =
      let forms : form_of c ≡ form_of d = let x = sym g.0 ∙ k.0 in cc in ap Status.passed (sym (one_slip calls c d h forms))
  one calls told other s table mine h g k = absurd h

pub asked_alike : AskedAlike
asked_alike = λ a b room calls others told other same t u. alike a b room calls others told other same t u

same_call : (call : Call) → SameCall call call
same_call (Call.judge table r) = (refl, refl)
same_call (Call.put c r) = (refl, refl)
same_call (Call.inspect r) = refl
same_call (Call.release r) = refl
same_call Call.clear = tt {0}

same_calls : (calls : List Call) → SameCalls calls calls
same_calls [] = tt {0}
same_calls (call ∷ calls) = (same_call call, same_calls calls)

module _ {D R : Type 0} (meaning_d : D → Automaton) (meaning_r : R → Automaton) (s : Bench D R) where
  pub one_told : OneTold meaning_d meaning_r s
  one_told =
      λ a b room calls others told other table mine same led also.
      one a b room calls told other s.state table mine (alike a b room calls others told other same led.tells also.tells)
      led.agrees also.agrees

  first_of : (told : Status) (table : List Record) (c : Certificate) → Has told c → Agrees told s.state table → First c table
  first_of Status.empty table c has g = absurd (has_some Status.empty c has refl)
  first_of (Status.drafted x) table c has g = subst (λ z. First z table) (has_drafted x c has) g.1
  first_of (Status.passed x) table c has g = subst (λ z. First z table) (has_passed x c has) g.1

  pub altered_not_led_to : AlteredIsNotLedTo meaning_d meaning_r s
  altered_not_led_to =
      λ a b room calls told table altered c led has changed other also.
      let same = one_told a b room calls calls told other table altered (same_calls calls) led also in
      changed (first_of told altered c has (subst (λ t. Agrees t s.state altered) same also.agrees))
