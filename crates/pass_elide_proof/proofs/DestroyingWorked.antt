-- In the worked run the destroy calls an activation that is to free the instance.
use Rattle.std.proofs.Common.{◌≡◌, ◌<◌, ℕ, List, ◌∷◌, arith, inl, refl}
use Rattle.elide_shape.specs.Edges.{edges_of}
use Rattle.elide_sites.specs.Destroyed.{IsOn, Start}
use Rattle.elide_sites.specs.declared.destroyed.Way.{Way}
use Rattle.pass_elide_proof.specs.Destroying.{HasToFree, IsBehindDestroy, Unfreed}
use Rattle.pass_elide_proof.specs.Worked.{a_caller, a_coroutine, before, module_of}
use Rattle.pass_proofs.specs.run_source.declared.state.Activation.{Activation}
use Rattle.pass_proofs.specs.run_source.declared.state.Mode.{Mode}

-- the destroy edge leads to block 8
on_way : IsOn Way.Unfreed a_coroutine 8
unfolding edges_of
on_way = Start 8 (inl refl)

none_before : (k : ℕ) → k < 0 → ⊥
none_before k lt = omega (arith, lt)

not_entering : (from label : ℕ) → Mode.Resumed ≡ Mode.Entering from label → ⊥
not_entering from label same = cc

pub worked_to_free : HasToFree (module_of a_caller) (before 42).instances (before 42).top
worked_to_free = record {
  number = 0;
  instance = _;
  own = refl;
  there = refl;
  frees = Unfreed on_way (λ k i lt there. absurd (none_before k lt)) not_entering;
}

pub worked_behind : (b : Activation) × (below : List Activation) × ((before 42).below ≡ b ∷ below)
    × IsBehindDestroy a_caller b
worked_behind = (_, _, refl, record { at = 2; behind = refl; instr = _; there = refl; destroys = refl })
