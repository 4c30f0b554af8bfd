-- How a part is cut at a resume and at a destroy, and in which activations.
use Rattle.std.proofs.Common.{◌≡◌, ℕ, ◌⊎◌, inl, inr, true, false, Option, None, Some, refl, sym, ap, ◌∙◌, if◌then◌else◌}
use Rattle.std.proofs.lemmas.Bool.{false≢true}
use Rattle.pass_proofs.specs.pass_intrinsics.Cuts.{goes_on, transfers}
use Rattle.pass_proofs.specs.pass_intrinsics.declared.cuts.Cut.{Cut}
use Rattle.pass_proofs.specs.pass_intrinsics.declared.shape.Part.{Part}
use Rattle.pass_split_proof.specs.states.Activations.{RunsPart, is_entering}
use Rattle.pass_proofs.specs.run_source.declared.state.Mode.{Mode}

-- a resume stays or transfers, and transfers where the part goes on
pub stays_or : (part : Part) (o : Option ℕ) (c : Cut) → (if goes_on part then transfers o else Cut.Stays) ≡ c
    → (c ≡ Cut.Stays) ⊎ ((j : ℕ) × ((c ≡ Cut.Transfers j) × (goes_on part ≡ true)))
stays_or Part.Ramp o c e = inl (sym e)
stays_or Part.GivenRamp o c e = inl (sym e)
stays_or Part.Resume None c e = inl (sym e)
stays_or Part.Resume (Some j) c e = inr (j, (sym e, refl))
stays_or Part.Destroy None c e = inl (sym e)
stays_or Part.Destroy (Some j) c e = inr (j, (sym e, refl))
stays_or Part.Cleanup None c e = inl (sym e)
stays_or Part.Cleanup (Some j) c e = inr (j, (sym e, refl))

-- an activation of a part that goes on is a resumed one
pub resumed_mode : (mode : Mode) (part : Part) → RunsPart mode part → goes_on part ≡ true → is_entering mode ≡ false
    → mode ≡ Mode.Resumed
resumed_mode Mode.Plain part runs goes settled = absurd (false≢true (sym (ap goes_on runs) ∙ goes))
resumed_mode Mode.Ramp part runs goes settled = absurd (false≢true (sym (ap goes_on runs) ∙ goes))
resumed_mode Mode.Resumed part runs goes settled = refl
resumed_mode (Mode.GivenRamp frame) part runs goes settled = absurd (false≢true (sym (ap goes_on runs) ∙ goes))
resumed_mode (Mode.Entering from label) part runs goes settled = absurd (false≢true (sym settled))

-- no part ends before what is no begin
pub begins_none : (part : Part) → (if goes_on part then false else false) ≡ false
begins_none Part.Ramp = refl
begins_none Part.GivenRamp = refl
begins_none Part.Resume = refl
begins_none Part.Destroy = refl
begins_none Part.Cleanup = refl

-- cuts are apart
pub marks_stays : (mark : ℕ) → Cut.Marks mark ≡ Cut.Stays → ⊥
marks_stays mark e = absurd (cc)

pub suspends_stays : Cut.Suspends ≡ Cut.Stays → ⊥
suspends_stays e = absurd (cc)

pub returns_stays : Cut.Returns ≡ Cut.Stays → ⊥
returns_stays e = absurd (cc)

pub transfers_stays : (j : ℕ) → Cut.Transfers j ≡ Cut.Stays → ⊥
transfers_stays j e = absurd (cc)

pub marks_transfers : (mark j : ℕ) → Cut.Marks mark ≡ Cut.Transfers j → ⊥
marks_transfers mark j e = absurd (cc)

pub suspends_transfers : (j : ℕ) → Cut.Suspends ≡ Cut.Transfers j → ⊥
suspends_transfers j e = absurd (cc)

pub returns_transfers : (j : ℕ) → Cut.Returns ≡ Cut.Transfers j → ⊥
returns_transfers j e = absurd (cc)
