-- Lemmas on edge uses, that speak of no pass.
use Rattle.std.proofs.Common.{List, Some, [], ap, arith, inl, inr, refl, subst, suc, sym, zero, ℕ, ⊎_elim, ◌+◌, ◌∙◌, ◌∷◌, ◌≡◌}
use Rattle.std.specs.Prelude.{slice_get}
use Rattle.rule_uses.specs.Uses.{local_of}
use Rattle.ir_laws.proofs.paths.source_rules.Locals.{listed_either, listed_left, listed_right}
use Rattle.ir_laws.specs.flow_solver.Paths.{IsListed}
use Rattle.ir_laws.specs.ir_model.Names.{position_of}
use Rattle.ir_laws.specs.ir_model.declared.instr.Incoming.{Incoming}
use Rattle.ir_laws.specs.ir_model.declared.instr.Phi.{Phi}
use Rattle.ir_laws.specs.ir_model.declared.module.Block.{Block}
use Rattle.ir_laws.specs.ir_model.declared.module.Function.{Function}
use Rattle.ir_laws.specs.ir_model.declared.operand.Operand.{Operand}
use Rattle.frame_contents.specs.frame_crossing.EdgeUses.{IsUsedOn, blocks_uses, edge_use, incoming_uses, phis_uses, uses_by}
use Rattle.frame_contents.specs.frame_crossing.declared.edge_use.EdgeUse.{EdgeUse}
use Rattle.ir_laws.proofs.facts.Numbers.{IsTakenBy}

module _ (h : Function) (v from : ℕ) where
  abbrev Wanted : ℕ → EdgeUse
  Wanted to = edge_use from to v

  -- the operands of one phi
  record IsIncoming (is : List Incoming) : Type 0 where
    index : ℕ
    incoming : Incoming
    there : slice_get is index ≡ Some incoming
    source : position_of h incoming.from ≡ from
    value : incoming.value ≡ Operand.Local v

  one_taken : (at to : ℕ) (i : Incoming) → IsListed (edge_use from to v) (uses_by (position_of h i.from) at (local_of i.value)) → (position_of h i.from ≡ from) × (i.value ≡ Operand.Local v) × (at ≡ to)
  one_taken at to i l = on i.value l
    where
      on : (x : Operand) → IsListed (edge_use from to v) (uses_by (position_of h i.from) at (local_of x)) → (position_of h i.from ≡ from) × (x ≡ Operand.Local v) × (at ≡ to)
      on (Operand.Local w) (inl e) = (sym (ap (λ (u : EdgeUse). u.from) e), ap Operand.Local (sym (ap (λ (u : EdgeUse). u.value) e)), sym (ap (λ (u : EdgeUse). u.to) e))
      on (Operand.Local w) (inr m) = absurd m
      on _ m = absurd m

  incoming_taken : (at to : ℕ) (is : List Incoming) → IsListed (edge_use from to v) (incoming_uses h at is) → IsIncoming is × (at ≡ to)
  incoming_taken at to [] l = absurd l
  incoming_taken at to (i ∷ is) l = ⊎_elim
      (λ (a : IsListed (edge_use from to v) (uses_by (position_of h i.from) at (local_of i.value))). let x = one_taken at to i a in (record { index = 0; incoming = i; there = refl; source = x.0; value = x.1 }, x.2))
      (λ (b : IsListed (edge_use from to v) (incoming_uses h at is)). let y = incoming_taken at to is b in (record { index = suc y.0.index; incoming = y.0.incoming; there = y.0.there; source = y.0.source; value = y.0.value }, y.1))
      (listed_either (edge_use from to v) (uses_by (position_of h i.from) at (local_of i.value)) (incoming_uses h at is) l)

  taken_incoming : (to : ℕ) (is : List Incoming) (x : IsIncoming is) → IsListed (edge_use from to v) (incoming_uses h to is)
  taken_incoming to is x = along is x.index x.there
    where
      own : (i : Incoming) → i ≡ x.incoming → IsListed (edge_use from to v) (uses_by (position_of h i.from) to (local_of i.value))
      own i same =
          subst (λ (y : Operand). IsListed (edge_use from to v) (uses_by (position_of h i.from) to (local_of y))) (sym (ap (λ (j : Incoming). j.value) same ∙ x.value))
          (inl (λ k. edge_use ((sym (ap (λ (j : Incoming). position_of h j.from) same ∙ x.source)) k) to v))

      along : (is : List Incoming) (n : ℕ) → slice_get is n ≡ Some x.incoming → IsListed (edge_use from to v) (incoming_uses h to is)
      along [] n e = absurd (cc)
      along (i ∷ is) zero e = let same : i ≡ x.incoming = cc in listed_left (edge_use from to v) (uses_by (position_of h i.from) to (local_of i.value)) (incoming_uses h to is) (own i same)
      along (i ∷ is) (suc n) e = listed_right (edge_use from to v) (uses_by (position_of h i.from) to (local_of i.value)) (incoming_uses h to is) (along is n e)

  -- those of the phis of a block
  record IsPhi (ps : List Phi) : Type 0 where
    at : ℕ
    phi : Phi
    stands : slice_get ps at ≡ Some phi
    taken : IsIncoming phi.incoming

  phis_taken : (at to : ℕ) (ps : List Phi) → IsListed (edge_use from to v) (phis_uses h at ps) → IsPhi ps × (at ≡ to)
  phis_taken at to [] l = absurd l
  phis_taken at to (p ∷ ps) l = ⊎_elim
      (λ (a : IsListed (edge_use from to v) (incoming_uses h at p.incoming)). let x = incoming_taken at to p.incoming a in (record { at = 0; phi = p; stands = refl; taken = x.0 }, x.1))
      (λ (b : IsListed (edge_use from to v) (phis_uses h at ps)). let y = phis_taken at to ps b in (record { at = suc y.0.at; phi = y.0.phi; stands = y.0.stands; taken = y.0.taken }, y.1))
      (listed_either (edge_use from to v) (incoming_uses h at p.incoming) (phis_uses h at ps) l)

  taken_phis : (to : ℕ) (ps : List Phi) (n : ℕ) (p : Phi) → slice_get ps n ≡ Some p → IsIncoming p.incoming → IsListed (edge_use from to v) (phis_uses h to ps)
  taken_phis to [] n p e x = absurd (cc)
  taken_phis to (q ∷ ps) zero p e x = let same : q ≡ p = cc in listed_left (edge_use from to v) (incoming_uses h to q.incoming) (phis_uses h to ps) (taken_incoming to q.incoming (subst (λ (y : Phi). IsIncoming y.incoming) (sym same) x))
  taken_phis to (q ∷ ps) (suc n) p e x = listed_right (edge_use from to v) (incoming_uses h to q.incoming) (phis_uses h to ps) (taken_phis to ps n p e x)

  -- and those of all blocks
  record IsBlock (at to : ℕ) (bs : List Block) : Type 0 where
    index : ℕ
    block : Block
    got : slice_get bs index ≡ Some block
    position : at + index ≡ to
    taken : IsPhi block.phis

  blocks_taken : (at to : ℕ) (bs : List Block) → IsListed (edge_use from to v) (blocks_uses h at bs) → IsBlock at to bs
  blocks_taken at to [] l = absurd l
  blocks_taken at to (b ∷ bs) l = ⊎_elim
      (λ (a : IsListed (edge_use from to v) (phis_uses h at b.phis)). let x = phis_taken at to b.phis a in let same = x.1 in record { index = 0; block = b; got = refl; position = (let z : at + 0 ≡ to = omega (arith, same) in z); taken = x.0 })
      (λ (c : IsListed (edge_use from to v) (blocks_uses h (at + 1) bs)). let y = blocks_taken (at + 1) to bs c in let same = y.position in record { index = suc y.index; block = y.block; got = y.got; position = (let z : at + suc y.index ≡ to = omega (arith, same) in z); taken = y.taken })
      (listed_either (edge_use from to v) (phis_uses h at b.phis) (blocks_uses h (at + 1) bs) l)

  taken_blocks : (at to : ℕ) (bs : List Block) (k : ℕ) (b : Block) → slice_get bs k ≡ Some b → at + k ≡ to → (n : ℕ) (p : Phi) → slice_get b.phis n ≡ Some p → IsIncoming p.incoming → IsListed (edge_use from to v) (blocks_uses h at bs)
  taken_blocks at to [] k b e s n p d x = absurd (cc)
  taken_blocks at to (c ∷ bs) zero b e s n p d x =
      let same : c ≡ b = cc in
      let here : to ≡ at = omega (arith, s) in
      listed_left (edge_use from to v) (phis_uses h at c.phis) (blocks_uses h (at + 1) bs)
      (subst (λ (m : ℕ). IsListed (edge_use from to v) (phis_uses h m c.phis)) here (taken_phis to c.phis n p (ap (λ (y : Block). slice_get y.phis n) same ∙ d) x))
  taken_blocks at to (c ∷ bs) (suc k) b e s n p d x =
      listed_right (edge_use from to v) (phis_uses h at c.phis) (blocks_uses h (at + 1) bs) (taken_blocks (at + 1) to bs k b e (omega (arith, s)) n p d x)

pub taken_by : (h : Function) (v from to : ℕ) → IsUsedOn h v from to → IsTakenBy h v from to
taken_by h v from to l =
    let x = blocks_taken h v from 0 to h.blocks l in
    let same = x.position in
    let at : x.index ≡ to = omega (arith, same) in
    record {
      block = x.block;
      got = ap (slice_get h.blocks) (sym at) ∙ x.got;
      at = x.taken.at;
      phi = x.taken.phi;
      stands = x.taken.stands;
      index = x.taken.taken.index;
      incoming = x.taken.taken.incoming;
      there = x.taken.taken.there;
      source = x.taken.taken.source;
      value = x.taken.taken.value;
    }

pub used_on : (h : Function) (v from to : ℕ) → IsTakenBy h v from to → IsUsedOn h v from to
used_on h v from to x =
    let same : 0 + to ≡ to = omega arith in
    taken_blocks h v from 0 to h.blocks to x.block x.got same x.at x.phi x.stands
    (record { index = x.index; incoming = x.incoming; there = x.there; source = x.source; value = x.value })
