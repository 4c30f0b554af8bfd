-- A function's one coro.end stands in its end block.
use Rattle.std.proofs.Common.{◌≡◌, ◌∙◌, ℕ, zero, suc, Bool, true, false, List, [], ◌∷◌, length, ap, if◌then◌else◌, refl, sym, ◌||◌}
use Rattle.std.specs.List.{list_any}
use Rattle.std.specs.Prelude.{None, Option, Some, option_map, slice_get, unwrap_or}
use Rattle.pass_elide_apart.specs.Rets.{HasOneEnd}
use Rattle.pass_elide_edges.proofs.pass_elide_proof.ElidedFound.{fetched}
use Rattle.pass_elide_edges.proofs.pass_elide_proof.GoesOn.{instr_there}
use Rattle.pass_elide_edges.proofs.pass_elide_proof.pass_proofs.ir_laws.facts.Lists.{at_any}
use Rattle.pass_elide_edges.specs.pass_elide_proof.Places.{instrs_in}
use Rattle.pass_elide_edges.specs.pass_elide_proof.pass_proofs.ir_model.Names.{first_where}
use Rattle.pass_elide_edges.specs.pass_elide_proof.pass_proofs.ir_model.declared.instr.Instr.{Instr}
use Rattle.pass_elide_edges.specs.pass_elide_proof.pass_proofs.ir_model.declared.module.Block.{Block}
use Rattle.pass_elide_edges.specs.pass_elide_proof.pass_proofs.ir_model.declared.module.Function.{Function}
use Rattle.pass_elide_edges.specs.pass_elide_proof.pass_proofs.ir_model.declared.operand.Intrinsic.{Intrinsic}
use Rattle.pass_elide_edges.specs.pass_elide_proof.pass_proofs.ir_paths.Windows.{end_block, is_call_of}
use Rattle.pass_elide_edges.specs.pass_elide_proof.pass_proofs.ir_paths.declared.point.Point.{Point}
use Rattle.pass_elide_edges.specs.pass_elide_proof.pass_proofs.run_step.Step.{AtInstr, fetch}

abbrev has_end : Block → Bool
has_end b = list_any (is_call_of Intrinsic.CoroEnd) b.instrs

-- the first block that has an end
record IsFirst (bs : List Block) : Type 0 where
  position : ℕ
  first : first_where has_end bs ≡ Some position
  block : Block
  there : slice_get bs position ≡ Some block
  has : has_end block ≡ true

first_of : (bs : List Block) (k : ℕ) (b : Block) → slice_get bs k ≡ Some b → has_end b ≡ true → IsFirst bs
first_of [] k b at has = absurd (cc)
first_of (c ∷ bs) zero b at has =
    let same : c ≡ b = cc in
    let here : has_end c ≡ true = ap has_end same ∙ has in
    record {
      position = 0;
      first = ap (λ (t : Bool). if t then Some 0 else option_map suc (first_where has_end bs)) here;
      block = c;
      there = refl;
      has = here;
    }
first_of (c ∷ bs) (suc k) b at has = by (has_end c) refl (first_of bs k b at has)
  where
    by : (t : Bool) → has_end c ≡ t → IsFirst bs → IsFirst (c ∷ bs)
    by true here rest = record {
      position = 0;
      first = ap (λ (t : Bool). if t then Some 0 else option_map suc (first_where has_end bs)) here;
      block = c;
      there = refl;
      has = here;
    }
    by false here rest = record {
      position = suc rest.position;
      first = ap (λ (t : Bool). if t then Some 0 else option_map suc (first_where has_end bs)) here
          ∙ ap (option_map suc) rest.first;
      block = rest.block;
      there = rest.there;
      has = rest.has;
    }

any_at : (test : Instr → Bool) (is : List Instr) (k : ℕ) (i : Instr) → slice_get is k ≡ Some i → test i ≡ true
    → list_any test is ≡ true
any_at test [] k i at has = absurd (cc)
any_at test (j ∷ is) zero i at has =
    let same : j ≡ i = cc in ap (λ (b : Bool). b || list_any test is) (ap test same ∙ has)
any_at test (j ∷ is) (suc k) i at has = on (test j) (any_at test is k i at has)
  where
    on : (b : Bool) → list_any test is ≡ true → (b || list_any test is) ≡ true
    on true h = refl
    on false h = h

pub end_in_block : (f : Function) → HasOneEnd f → (block at : ℕ) (i : Instr) → fetch f block at ≡ AtInstr i
    → is_call_of Intrinsic.CoroEnd i ≡ true → block ≡ end_block f
end_in_block f one block at i there is = by (slice_get f.blocks block) refl (instr_there f block at i there)
  where
    on : (b : Block) → slice_get f.blocks block ≡ Some b → slice_get b.instrs at ≡ Some i → block ≡ end_block f
    on b whole here =
        let x = first_of f.blocks block b whole (any_at (is_call_of Intrinsic.CoroEnd) b.instrs at i here is) in
        let y = at_any (is_call_of Intrinsic.CoroEnd) x.block.instrs x.has in
        let other : fetch f x.position y.index ≡ AtInstr y.element
        = fetched f x.position y.index y.element
        (ap (λ (o : Option Block). slice_get (instrs_in o) y.index) x.there ∙ y.got) in
        ap (λ (p : Point). p.block)
        (one (record { block = block; at = at }) (record { block = x.position; at = y.index })
        (record { instr = i; stands = there; is = is }) (record { instr = y.element; stands = other; is = y.passes }))
        ∙ sym (ap (λ (o : Option ℕ). unwrap_or o (length f.blocks)) x.first)

    by : (o : Option Block) → slice_get f.blocks block ≡ o → slice_get (instrs_in o) at ≡ Some i → block ≡ end_block f
    by None eo here = absurd (cc)
    by (Some b) eo here = on b eo here
