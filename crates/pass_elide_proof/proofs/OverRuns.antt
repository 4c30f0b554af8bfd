-- Behind the return of an entry that has sites the states aren't beside each other.
use Rattle.std.proofs.Common.{◌≡◌, ◌+◌, ◌∙◌, ◌++◌, ◌∷◌, [], ap, arith, inl, inr, List, refl, sym, ℕ, length}
use Rattle.std.specs.Prelude.{map}
use Rattle.pass_elide_proof.specs.Elision.{Elision, function_in, rooms}
use Rattle.pass_elide_proof.specs.Match.{AreElided, HasAllocas, sides}
use Rattle.pass_elide_proof.specs.Places.{allocas_ahead}
use Rattle.pass_elide_proof.specs.Worked.{after, before, the_elision}
use Rattle.pass_proofs.proofs.ir_laws.facts.Lists.{none_of}
use Rattle.pass_proofs.specs.ir_model.Ty.{array, int}
use Rattle.pass_proofs.specs.ir_model.declared.instr.Instr.{Instr}
use Rattle.pass_proofs.specs.run_laws.embedded.Deaths.{moved_slot}
use Rattle.pass_proofs.specs.run_source.declared.state.State.{State}
use Rattle.pass_proofs.specs.run_step.declared.world.Slot.{Slot}

none_behind : {A : Type 0} (xs ys : List A) → xs ++ ys ≡ [] → ys ≡ []
none_behind [] ys e = e
none_behind (x ∷ xs) ys e = absurd (cc)

pub no_allocas : (e : Elision) (s t : State) → AreElided e s t → t.top.slots ≡ [] → (s.top.at ≡ 0 → ⊥)
    → allocas_ahead (rooms e s.top.func) (function_in e s.top.func) ≡ []
no_allocas e s t r dead further = on r.top.own own r.top.allocas
  where
    own : r.top.own ≡ []
    own = none_behind (map (moved_slot r.homes) s.top.slots) r.top.own (sym r.top.slots ∙ dead)

    on : (zs : List Slot) → zs ≡ [] → HasAllocas e r.homes r.hides (sides s t) s.top t.top zs
        → allocas_ahead (rooms e s.top.func) (function_in e s.top.func) ≡ []
    on zs none (inl first) = absurd (further first.1)
    on zs none (inr made) = none_of (allocas_ahead (rooms e s.top.func) (function_in e s.top.func))
        (sym made.1 ∙ ap length none)

never : (n : ℕ) → n + 1 ≡ 0 → ⊥
never n e = omega (arith, e)

some : (i : Instr) → i ∷ [] ≡ [] → ⊥
some i e = absurd (cc)

pub worked_apart : AreElided the_elision (before 51) (after 49) → ⊥
worked_apart r = some (Instr.Alloca 2 (array 24 (int 8)) 8)
    (no_allocas the_elision (before 51) (after 49) r refl (never 2))
