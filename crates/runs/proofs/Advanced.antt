-- What an advance promises, way by way.
use Rattle.std.proofs.Common.{◌≡◌, ℕ, ◌<◌, ◌≤◌, Bool, true, cond, eqb, List, Ok, Err, sym, refl, ap, ◌∙◌, subst, arith, eq-eqb, ne_eqb}
use Rattle.script.specs.declared.faults.RunFault.TheVariants.{NoState, OutOfTurns}
use Rattle.lattice.specs.Levels.{Levels, Lawful}
use Rattle.codec.specs.Frames.{Frame}
use Rattle.scheduler.specs.Turns.{Meaning}
use Rattle.script.specs.Code.{Script}
use Rattle.script.specs.Trees.{head_of, script_frames}
use Rattle.model.specs.Machine.{State, advance, most_turns, rules}
use Rattle.model.specs.Calls.{Answer, perform}
use Rattle.model.specs.Calls.Answer.{gave, refused}
use Rattle.model.specs.Calls.Call.{advance_by}
use Rattle.model.specs.Calls.Refusal.{out_of_turns}
use Rattle.model.specs.Fitting.{behind_thread}
use Rattle.survey.specs.Table.{Tabled}
use Rattle.survey.specs.declared.table.Step.{Step}
use Rattle.runs.specs.Leaves.{Leaves}
use Rattle.runs.specs.Views.{RunningMem, Runs}
use Rattle.runs.specs.Turns.{Advanced}
use Rattle.runs.specs.Memory.{Memory, StandsFor, changing}
use Rattle.runs.specs.Answers.{told}
use Rattle.runs.specs.Calls.{Advances}
use Rattle.runs.specs.Finding.{HasNoState, SomeState}
use Rattle.runs.specs.Kept.{CodedLevels}
use Rattle.runs.proofs.Found.{levels_coded}
use Rattle.runs.proofs.Leaving.{leaves_none}
use Rattle.runs.proofs.Viewing.{Keeps, coded_advance, levelled, one_state, runs_keeps, runs_stands, stands_runs}

-- The machine's advance, by whether the last turn was given.
performed : (k : Levels) (sc : Script) {S : Type 0} (schedule : Meaning S) (n : ℕ) (s : State) (g : S)
    → perform k sc schedule (advance_by true n) s g ≡ cond {A = Answer × State × S} (eqb s.turns most_turns) (refused out_of_turns, s, g) (let r = advance (rules k sc) schedule n s g in (gave r.0, r.1, r.2))
unfolding perform
performed k sc schedule n s g = refl

module _ (kind : ℕ) (k : Levels) {S : Type 0} (schedule : Meaning S) (n : ℕ) (m : Memory) (g : S) (work : ℕ) where
  -- Too short a work slab.
  pub advances_short : work < 16 → Advances kind k schedule n m g work m g (Err NoState)
  advances_short lt = record {
    did = λ sc s st le. absurd (omega arith);
    unfit = λ none. refl;
    refusal = (refl, refl);
    leaves = leaves_none (changing m);
    one = one_state kind k m;
  }

  -- No state stands in the slabs.
  pub advances_none : HasNoState kind k m → Advances kind k schedule n m g work m g (Err NoState)
  advances_none none = record {
    did = λ sc s st le. absurd (none sc s st);
    unfit = λ h. refl;
    refusal = (refl, refl);
    leaves = leaves_none (changing m);
    one = one_state kind k m;
  }

  -- The last turn was given.
  pub advances_out : (table : List Step) → SomeState kind k m table → 16 ≤ work → m.core.turns ≡ 1000000 → Advances kind k schedule n m g work m g (Err OutOfTurns)
  advances_out table found enough last = record {
    did = λ sc s st le.
        let turns : s.turns ≡ m.core.turns = ap (λ (x : State). x.turns) st.is in
        let e : perform k sc schedule (advance_by true n) s g ≡ (refused out_of_turns, s, g) =
        performed k sc schedule n s g ∙ ap (λ (b : Bool). cond {A = Answer × State × S} b (refused out_of_turns, s, g) (let r = advance (rules k sc) schedule n s g in (gave r.0, r.1, r.2))) (eq-eqb s.turns most_turns (turns ∙ last)) in
        (sym (ap (λ x. told x.0) e), subst (StandsFor kind k m sc) (sym (ap (λ x. x.1) e)) st, sym (ap (λ x. x.2) e));
    unfit = λ none. absurd (none found.script found.state found.stands enough);
    refusal = (refl, refl);
    leaves = leaves_none (changing m);
    one = one_state kind k m;
  }

-- Turns were given

module _ (kind : ℕ) (k : Levels) (lawful : Lawful k) {S : Type 0} (schedule : Meaning S) (n : ℕ) (m m' : Memory) (g g' : S) (given : ℕ) (table : List Step)
    (found : SomeState kind k m table) (keeps : Keeps m.core) where
  runs-first : Runs found.script (behind_thread found.script) table m.script m.samples (changing m) found.state
  runs-first = stands_runs kind k m found.script found.state found.stands table found.tabled keeps

  -- The turn loop may begin.
  pub may_run : RunningMem table m.script m.samples (changing m)
  may_run = (found.script, behind_thread found.script, found.state, runs-first)

  module _ (ran : (sc : Script) (after : ℕ → List Frame) (s : State) → Runs sc after table m.script m.samples (changing m) s → Advanced k schedule table m.script m.samples n given (changing m') g g' sc after s)
      (script-is : m'.script ≡ m.script) (samples_are : m'.samples ≡ m.samples) (leaves : Leaves (changing m) (changing m')) where
    pub still_keeps : Keeps m'.core × CodedLevels k m'.core
    still_keeps =
        let sc = found.script in
        let runs = (ran sc (behind_thread sc) found.state runs-first).runs in
        let coded = coded_advance k sc lawful (levelled kind k sc found.stands.valid) schedule n found.state g found.stands.coded in (
          runs_keeps kind k m m' sc found.state _ found.stands table found.tabled script-is samples_are leaves keeps runs,
          levels_coded kind k m' sc _ (runs_stands kind k m m' sc found.state _ found.stands table found.tabled script-is samples_are leaves runs coded),
        )

    pub advances_ran : (work : ℕ) → 16 ≤ work → (m.core.turns ≡ 1000000 → ⊥) → Advances kind k schedule n m g work m' g' (Ok given)
    advances_ran work enough more = record {
      did = λ sc s st le.
          let same = (one_state kind k m found.script sc found.state s found.stands st).0 in
          let there : Tabled (head_of sc) m.script table (script_frames sc) = subst (λ (x : Script). Tabled (head_of x) m.script table (script_frames x)) same found.tabled in
          let did = ran sc (behind_thread sc) s (stands_runs kind k m sc s st table there keeps) in
          let turns : s.turns ≡ m.core.turns = ap (λ (x : State). x.turns) st.is in
          let r = advance (rules k sc) schedule n s g in
          let e : perform k sc schedule (advance_by true n) s g ≡ (gave r.0, r.1, r.2) =
          performed k sc schedule n s g ∙ ap (λ (b : Bool). cond {A = Answer × State × S} b (refused out_of_turns, s, g) (gave r.0, r.1, r.2)) (ne_eqb s.turns most_turns (λ q. more (sym turns ∙ q))) in
          let coded = coded_advance k sc lawful (levelled kind k sc st.valid) schedule n s g st.coded in (
            ap Ok did.answer ∙ sym (ap (λ x. told x.0) e),
            subst (StandsFor kind k m' sc) (sym (ap (λ x. x.1) e)) (runs_stands kind k m m' sc s r.1 st table there script-is samples_are leaves did.runs coded),
            did.scheduler ∙ sym (ap (λ x. x.2) e),
          );
      unfit = λ none. absurd (none found.script found.state found.stands enough);
      refusal = tt;
      leaves = leaves;
      one = one_state kind k m;
    }
