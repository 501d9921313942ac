-- What it means to certify a verdict, to confirm a slip and to audit one; and when each is refused.
use Rattle.std.specs.Prelude.{◌≡◌, ℕ, List, length, None, Some, Option, Ok, Err, Result, MatchResult}
use Rattle.bench.specs.Calls.{Drafts, Sized}
use Rattle.bench.specs.Slips.{Fits, form_of, over}
use Rattle.bench.specs.Tellings.{Status}
use Rattle.bench.specs.Verdicts.{Decides}
use Rattle.bench.specs.declared.states.Form.{Form}
use Rattle.chart.specs.Automata.{Automaton}
use Rattle.bench.specs.declared.faults.BenchFault.{BenchFault}
use Rattle.bench.specs.declared.faults.BenchFault.TheVariants.{Instance, Room, Shape, Search, Broken}
use Rattle.ranked.specs.Together.{GoTogether, InstanceRefused}
use Rattle.records.specs.declared.faults.SearchFault.TheVariants.{Full}
use Rattle.graph.specs.Walks.{More}
use Rattle.rank.specs.Ranked.{ranked_graph}
use Rattle.slip.specs.declared.kinds.Breach.{Breach}
use Rattle.records.specs.Sizes.{Allowed}
use Rattle.records.specs.declared.record.Record.{Record}
use Rattle.slip.specs.Certificates.{Certificate}
use Rattle.slip.specs.Rules.{BreachTold, FirstBreach, Meets}
use Rattle.bench.specs.Showing.{Shows}
use Rattle.verdict.specs.declared.auditing.Audited.{Audited}
use Rattle.verdict.specs.declared.certifying.Certified.{Certified}

-- the slip that calls tell to be passed has this form, and is true
pub record Passes (a b : Automaton) (told : Status) (f : Form) : Type 0 where
  pub slip : Certificate
  pub passed : told ≡ Status.passed slip
  pub form : f ≡ form_of slip
  pub shows : Shows a b slip

-- both tables are as they were
pub record Untouched (table table' work work' : List Record) : Type 0 where
  pub same_table : table' ≡ table
  pub same_work : work' ≡ work

module _ (a b : Automaton) (room : ℕ) where
  -- The verdict, and a slip that judge may leave with it, which shows it: it stands over the first records of the table, and the
  -- others are as they were.
  pub record Certifies (table table' : List Record) (c : Certified) : Type 0 where
    pub decides : Decides a b room c.verdict
    pub slip : Certificate
    pub form : c.form ≡ form_of slip
    pub drafts : Drafts (ranked_graph a b) room c.verdict slip
    pub shows : Shows a b slip
    pub changed : table' ≡ over slip.records table

  -- Judging on an empty bench is refused: 7 comes before 13, after which the work table is free.
  abbrev pub CertifyRefused : List Record → List Record → List Record → List Record → BenchFault → Type 0
  CertifyRefused table table' work work' Room =
      (Sized room table × (length work ≡ room) → ⊥) × Untouched table table' work work'
  CertifyRefused table table' work work' (Search Full) =
      Sized room table × (length work ≡ room) × More (ranked_graph a b) room × (table' ≡ table)
  CertifyRefused table table' work work' _ = ⊥

  abbrev pub CertifyTells : List Record → List Record → List Record → List Record → Result Certified BenchFault → Type 0
  CertifyTells table table' work work' r =
      MatchResult r (λ c. Sized room table × (length work ≡ room) × Certifies table table' c) (CertifyRefused table table' work work')

  -- a duty and a rule that go together, and a room and a slip table for it
  pub record Ready (table : List Record) : Type 0 where
    pub together : GoTogether a b
    pub allowed : Allowed room
    pub sized : Sized room table

  -- 5 comes before 6, 6 before 7, and 7 before 13, after which the work table is free.
  abbrev pub DecideRefused : List Record → List Record → List Record → List Record → BenchFault → Type 0
  DecideRefused table table' work work' (Instance e) = InstanceRefused a b e × Untouched table table' work work'
  DecideRefused table table' work work' Room =
      GoTogether a b × (Allowed room × Sized room table × (length work ≡ room) → ⊥)
      × Untouched table table' work work'
  DecideRefused table table' work work' (Search Full) =
      Ready table × (length work ≡ room) × More (ranked_graph a b) room × (table' ≡ table)
  DecideRefused table table' work work' _ = ⊥

  abbrev pub DecideTells : List Record → List Record → List Record → List Record → Result Certified BenchFault → Type 0
  DecideTells table table' work work' r =
      MatchResult r (λ c. Ready table × (length work ≡ room) × Certifies table table' c) (DecideRefused table table' work work')

  module _ (c : Certificate) (table table' : List Record) where
    -- the slip that was given stands over the first records of the table, meets its rules, and is true
    pub record Confirms (f : Form) : Type 0 where
      pub form : f ≡ form_of c
      pub fits : Fits room c
      pub meets : Meets (ranked_graph a b) c
      pub shows : Shows a b c
      pub changed : table' ≡ over c.records table

    -- 5 comes before 6, 6 before 7, 7 before 9, and 9 before 14, which leaves the slip in the table.
    abbrev pub ConfirmRefused : BenchFault → Type 0
    ConfirmRefused (Instance e) = InstanceRefused a b e × (table' ≡ table)
    ConfirmRefused Room = GoTogether a b × (Allowed room × Sized room table → ⊥) × (table' ≡ table)
    ConfirmRefused Shape = Ready table × (Fits room c → ⊥) × (table' ≡ table)
    ConfirmRefused (Broken breach) =
        Ready table × Fits room c × FirstBreach (ranked_graph a b) c breach × (table' ≡ over c.records table)
    ConfirmRefused _ = ⊥

    abbrev pub ConfirmTells : Result Form BenchFault → Type 0
    ConfirmTells r = MatchResult r (λ f. Ready table × Confirms f) ConfirmRefused

    module _ (work work' : List Record) where
      -- The first breach of the slip that was given, if it has one; and the verdict, whose slip was written over it.
      pub record Audits (r : Audited) : Type 0 where
        pub fits : Fits room c
        pub breach : BreachTold (ranked_graph a b) c r.breach
        pub certifies : Certifies (over c.records table) table' r.certified

      -- 5 comes before 6, 6 before 7, 7 before 9, and 9 before 13, which leaves the slip that was given in the table.
      abbrev pub AuditRefused : BenchFault → Type 0
      AuditRefused (Instance e) = InstanceRefused a b e × Untouched table table' work work'
      AuditRefused Room =
          GoTogether a b × (Allowed room × Sized room table × (length work ≡ room) → ⊥)
          × Untouched table table' work work'
      AuditRefused Shape = Ready table × (length work ≡ room) × (Fits room c → ⊥) × Untouched table table' work work'
      AuditRefused (Search Full) =
          Ready table × (length work ≡ room) × Fits room c × More (ranked_graph a b) room × (table' ≡ over c.records table)
      AuditRefused _ = ⊥

      abbrev pub AuditTells : Result Audited BenchFault → Type 0
      AuditTells r = MatchResult r (λ x. Ready table × (length work ≡ room) × Audits x) AuditRefused

-- what an inspection says of a slip's rules, where it is not refused for another reason
abbrev pub RulesSaid : Result (Unit {0}) BenchFault → Result (Option Breach) BenchFault → Type 0
RulesSaid (Ok u) r = r ≡ Ok None
RulesSaid (Err (Broken breach)) r = r ≡ Ok (Some breach)
RulesSaid (Err e) r = r ≡ Err e
