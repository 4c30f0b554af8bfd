-- Steps of both runs, one after another.
use Rattle.std.proofs.Common.{◌≡◌, ◌⊎◌, ⊎_elim, inl, inr, ◌+◌, ◌∙◌, ◌<◌, ℕ, zero, suc, Bool, true, false, refl, sym, ap, subst, arith}
use Rattle.std.specs.Prelude.{◌↔◌, IsTrue}
use Rattle.ir_base.specs.declared.outcome.Outcome.{Outcome}
use Rattle.run_agreement.specs.Machines.{IsRunning, iterate}
use Rattle.run_compare.specs.Report.{HasCome, is_running, plain_seen, source_seen}
use Rattle.run_plain.proofs.Iterating.{iterate-next as plain-next}
use Rattle.run_plain.specs.Machines.{PlainRun, ran as plain_ran}
use Rattle.run_plain.specs.Plain.{plain_step}
use Rattle.run_plain.specs.declared.state.PlainState.{PlainState}
use Rattle.run_source.proofs.Iterating.{iterate-next}
use Rattle.run_source.specs.Machines.{SourceRun, ran}
use Rattle.run_source.specs.Source.{step}
use Rattle.run_source.specs.declared.state.State.{State}

-- a number below the next one is below, or it is this one
below_next : (i n : ℕ) → i < n + 1 → (i < n) ⊎ (i ≡ n)
below_next zero zero lt = inr refl
below_next zero (suc n) lt = inl (omega arith)
below_next (suc i) zero lt = absurd (omega (arith, lt))
below_next (suc i) (suc n) lt =
    ⊎_elim (λ less. inl (omega (arith, less))) (λ same. inr (ap suc same)) (below_next i n (omega (arith, lt)))

-- ---- the source

pub source_next : (r s u t : SourceRun) (n : ℕ) → s ≡ ran n r → u ≡ ran 0 s → t ≡ ran 1 u → t ≡ ran (n + 1) r
source_next r s u t n is same next =
    next ∙ ap (ran 1) (same ∙ is) ∙ ap (λ (x : State). record r { state = x }) (iterate-next (step r.given) n r.state)

pub runs : (o : Outcome) (b : Bool) → b ≡ is_running o → b ≡ true → is_running o ≡ true
runs o b is told = sym is ∙ told

running_by : (o : Outcome) → is_running o ≡ true → IsRunning o
running_by (Outcome.Returned v) is = absurd (cc)
running_by Outcome.Running is = tt
running_by (Outcome.Undefined cause place) is = absurd (cc)

pub still_running : (r s u : SourceRun) (n : ℕ) → s ≡ ran n r → u ≡ ran 0 s → (o : Outcome) → o ≡ u.state.outcome
    → is_running o ≡ true → ((i : ℕ) → i < n → IsRunning (source_seen r i).outcome) → (i : ℕ) → i < n + 1
    → IsRunning (source_seen r i).outcome
still_running r s u n is same o told goes before i lt =
    ⊎_elim (before i)
    (λ e. subst (λ (k : ℕ). IsRunning (source_seen r k).outcome) (sym e)
    (subst IsRunning (told ∙ ap (λ (x : SourceRun). x.state.outcome) (same ∙ is)) (running_by o goes)))
    (below_next i n lt)

-- ---- the lowered module

pub plain_next : (r s u t : PlainRun) (n : ℕ) → s ≡ plain_ran n r → u ≡ s → t ≡ plain_ran 1 u → t ≡ plain_ran (n + 1) r
plain_next r s u t n is same next =
    next ∙ ap (plain_ran 1) (same ∙ is)
    ∙ ap (λ (x : PlainState). record r { state = x }) (plain-next (plain_step r.given) n r.state)

untrue : {P : Type 0} (b : Bool) → b ≡ false → (IsTrue b ↔ P) → P → ⊥
untrue true e iff p = absurd (cc)
untrue false e iff p = let bad : false ≡ true = iff.1 p in absurd (cc)

pub not_come : (events : ℕ) (returned : Bool) (r s : PlainRun) (n : ℕ) → s ≡ plain_ran n r → (b : Bool) → b ≡ false
    → (IsTrue b ↔ HasCome events returned (plain_seen s 0))
    → ((i : ℕ) → i < n → HasCome events returned (plain_seen r i) → ⊥) → (i : ℕ) → i < n + 1
    → HasCome events returned (plain_seen r i) → ⊥
not_come events returned r s n is b wrong iff before i lt come =
    ⊎_elim (λ less. before i less come)
    (λ e. untrue b wrong iff (subst (λ (x : PlainRun). HasCome events returned (plain_seen x 0)) (sym is)
    (subst (λ (k : ℕ). HasCome events returned (plain_seen r k)) e come)))
    (below_next i n lt)
