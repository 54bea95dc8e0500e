-- A script that the definition refuses is refused by reading, with the same number and line.
use Rattle.std.proofs.Common.{◌≡◌, ℕ, ◌≤◌, List, length, Result, subst, le-ltb, MatchResult}
use Rattle.lattice.specs.Levels.{Levels}
use Rattle.script.specs.Format.{read_script}
use Rattle.script.specs.Format.Verdict.{refused}
use Rattle.script.specs.Promises.{ReadAs, Reads, TooShort, by_test}
use Rattle.script.specs.Refusals.{refusal, run_refusal}
use Rattle.script.specs.declared.Accepted.{Accepted}
use Rattle.script.specs.declared.faults.RunFault.{RunFault}

pub as_refused : {K : Type 0} (kind : ℕ) (k : Levels) (lines slab end : List ℕ) (r : Result (Accepted K) RunFault) (n l : ℕ) → 26112 ≤ length slab → Reads kind k lines slab end r
    → read_script kind k lines ≡ refused n l → MatchResult r (λ _. ⊥) (λ e. run_refusal e ≡ refusal n l)
as_refused kind k lines slab end r n l room h e =
    let g : ReadAs (read_script kind k lines) slab end r =
    subst (λ t. by_test t (TooShort slab end r) (ReadAs (read_script kind k lines) slab end r)) (le-ltb (length slab) 26112 room) h.gives in
    (subst (λ v. ReadAs v slab end r) e g).1
