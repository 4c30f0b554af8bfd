-- The flagged allocas of an entry block are those that a resumed activation executes, and it pays for each by its
-- place.
use Rattle.std.proofs.Common.{◌≡◌, ℕ, zero, suc, ◌+◌, Bool, true, false, List, [], ◌∷◌, length, drop, Option, Some}
use Rattle.std.proofs.Common.{None, refl, sym, ap, ◌∙◌, arith, if◌then◌else◌, ◌==◌}
use Rattle.std.specs.Prelude.{option_map, slice_get}
use Rattle.pass_kept_proof.specs.ir_model.Names.{first_where}
use Rattle.pass_kept_proof.specs.ir_model.Ty.{Ty}
use Rattle.pass_kept_proof.specs.ir_model.declared.instr.Instr.{Instr}
use Rattle.pass_kept_proof.specs.ir_model.declared.module.Block.{Block}
use Rattle.pass_kept_proof.specs.ir_model.declared.module.Function.{Function}
use Rattle.pass_kept_proof.specs.ir_paths.declared.point.Point.{Point}
use Rattle.pass_kept_proof.specs.run_agreement.Costs.{cost_from}
use Rattle.run_framed.specs.Framed.{at_point, with_mode}
use Rattle.pass_kept_proof.specs.run_source.State.{function_of}
use Rattle.pass_kept_proof.specs.run_source.declared.state.Mode.{Mode}
use Rattle.pass_kept_proof.specs.run_source.declared.state.State.{State}
use Rattle.pass_kept_proof.specs.ir_base.declared.outcome.Outcome.{Outcome}
use Rattle.pass_kept_proof.specs.run_step.Step.{AtInstr, fetch, fetch_in, fetch_or}
use Rattle.pass_renewed_proof.proofs.Entering.{entering_step}
use Rattle.pass_renewed_proof.specs.Entering.{Anew, AreAligned, AreNext, anew_in, if_renewed, made_anew, price_of_all}
use Rattle.pass_renewed_proof.specs.Prices.{Prices, renewed_price, slots_from}
use Rattle.pass_renewed_proof.specs.Renewed.{RenewedGiven, is_renewed, renew_after, renewed_from, renewed_in}
use Rattle.pass_renewed_proof.specs.Renewed.{renewed_step}

-- ---- what follows of a block

drop_suc : {A : Type 0} (xs : List A) (at : ℕ) (i : A) (is : List A) → drop at xs ≡ i ∷ is → drop (suc at) xs ≡ is
drop_suc [] zero i is e = absurd (cc)
drop_suc [] (suc at) i is e = absurd (cc)
drop_suc (x ∷ xs) zero i is e = cc
drop_suc (x ∷ xs) (suc at) i is e = drop_suc xs at i is e

drop_next : {A : Type 0} (xs : List A) (at : ℕ) (i : A) (is : List A) → drop at xs ≡ i ∷ is → drop (at + 1) xs ≡ is
drop_next xs at i is e = let s : at + 1 ≡ suc at = omega arith in ap (λ k. drop k xs) s ∙ drop_suc xs at i is e

get_dropped : {A : Type 0} (xs : List A) (at : ℕ) (i : A) (is : List A) → drop at xs ≡ i ∷ is
    → slice_get xs at ≡ Some i
get_dropped [] zero i is e = absurd (cc)
get_dropped [] (suc at) i is e = absurd (cc)
get_dropped (x ∷ xs) zero i is e = cc
get_dropped (x ∷ xs) (suc at) i is e = get_dropped xs at i is e

abbrev point_at : ℕ → Point
point_at k = record { block = 0; at = k }

abbrev found : ℕ → Option ℕ → Option Point
found at o = option_map (λ k. record { block = 0; at = k }) (option_map (λ k. at + k) o)

found_later : (at : ℕ) (o : Option ℕ) → found at (option_map suc o) ≡ found (at + 1) o
found_later at None = refl
found_later at (Some k) = let e : at + suc k ≡ (at + 1) + k = omega arith in ap (λ n. Some (point_at n)) e

found_here : (at : ℕ) → found at (Some 0) ≡ Some (point_at at)
found_here at = let e : at + 0 ≡ at = omega arith in ap (λ n. Some (point_at n)) e

module _ (flags : ℕ → Bool) (f : Function) (b : Block) (there : slice_get f.blocks 0 ≡ Some b) (aligned : AreAligned
    flags f) where
  from_drop : (at : ℕ) (is : List Instr) → drop at b.instrs ≡ is
      → renewed_from flags f at ≡ found at (first_where (is_renewed flags) is)
  from_drop at is e = ap (λ o. option_map (λ k. point_at k) (renewed_in flags o at)) there
      ∙ ap (λ l. found at (first_where (is_renewed flags) l)) e

  fetched : (at : ℕ) (i : Instr) (is : List Instr) → drop at b.instrs ≡ i ∷ is → fetch f 0 at ≡ AtInstr i
  fetched at i is e = ap (λ o. fetch_in o at) there
      ∙ ap (λ o. fetch_or o (at == length b.instrs) b.term) (get_dropped b.instrs at i is e)

  passed_over : (at : ℕ) (i : Instr) (is : List Instr) → drop at b.instrs ≡ i ∷ is → is_renewed flags i ≡ false
      → renewed_from flags f at ≡ renewed_from flags f (at + 1)
  passed_over at i is e off =
      from_drop at (i ∷ is) e
      ∙ ap (λ t. found at (if t then Some 0 else option_map suc (first_where (is_renewed flags) is))) off
      ∙ found_later at (first_where (is_renewed flags) is)
      ∙ sym (from_drop (at + 1) is (drop_next b.instrs at i is e))

  next_over : (at : ℕ) (xs : List Anew) → renewed_from flags f at ≡ renewed_from flags f (at + 1)
      → AreNext flags f (at + 1) xs → AreNext flags f at xs
  next_over at [] same h = same ∙ h
  next_over at (x ∷ xs) same h = (same ∙ h.0, h.1, h.2, h.3, h.4)

  next_alloca : (at name align : ℕ) (ty : Ty) (is : List Instr) (xs : List Anew)
      → drop at b.instrs ≡ Instr.Alloca name ty align ∷ is → AreNext flags f (at + 1) xs → (t : Bool) → flags name ≡ t
      → AreNext flags f at (if t then record { name = name; at = at; ty = ty; align = align } ∷ xs else xs)
  next_alloca at name align ty is xs e h true on =
      let here = fetched at (Instr.Alloca name ty align) is e in (
        from_drop at (Instr.Alloca name ty align ∷ is) e
            ∙ ap (λ t. found at (if t then Some 0 else option_map suc (first_where (is_renewed flags) is))) on
            ∙ found_here at,
        here,
        on,
        aligned name at ty align on here,
        h,
      )
  next_alloca at name align ty is xs e h false off = next_over at xs (passed_over at (Instr.Alloca name ty align) is e
      off) h

  next_instr : (at : ℕ) (i : Instr) (is : List Instr) (xs : List Anew) → drop at b.instrs ≡ i ∷ is
      → AreNext flags f (at + 1) xs → AreNext flags f at (if_renewed flags at i xs)
  next_instr at (Instr.Alloca name ty align) is xs e h = next_alloca at name align ty is xs e h (flags name) refl
  next_instr at (Instr.Binary r op fl ty x y) is xs e h = next_over at xs (passed_over at _ is e refl) h
  next_instr at (Instr.Icmp r pred ty x y) is xs e h = next_over at xs (passed_over at _ is e refl) h
  next_instr at (Instr.Select r c x y) is xs e h = next_over at xs (passed_over at _ is e refl) h
  next_instr at (Instr.Cast r op nneg x to) is xs e h = next_over at xs (passed_over at _ is e refl) h
  next_instr at (Instr.Load r ty p align) is xs e h = next_over at xs (passed_over at _ is e refl) h
  next_instr at (Instr.Store x p align) is xs e h = next_over at xs (passed_over at _ is e refl) h
  next_instr at (Instr.Gep r inb ty base ixs) is xs e h = next_over at xs (passed_over at _ is e refl) h
  next_instr at (Instr.Call r must ty callee args) is xs e h = next_over at xs (passed_over at _ is e refl) h

  next_in : (at : ℕ) (is : List Instr) → drop at b.instrs ≡ is → AreNext flags f at (anew_in flags at is)
  next_in at [] e = from_drop at [] e
  next_in at (i ∷ is) e = next_instr at i is (anew_in flags (at + 1) is) e (next_in (at + 1) is (drop_next b.instrs at
      i is e))

  pub entry_slots : AreNext flags f 0 (anew_in flags 0 b.instrs)
  entry_slots = next_in 0 b.instrs refl

-- ---- what they cost

nothing : (n : ℕ) → 0 + n ≡ n
nothing n = omega arith

one_price : (price : ℕ → ℕ) (flags : ℕ → Bool) (at : ℕ) (i : Instr) (xs : List Anew)
    → (if is_renewed flags i then price at else 0) + price_of_all price xs ≡ price_of_all price (if_renewed flags at i
    xs)
one_price price flags at (Instr.Alloca name ty align) xs = on (flags name)
  where
    on : (t : Bool) → (if t then price at else 0) + price_of_all price xs ≡ price_of_all price (if t then record {
      name = name;
      at = at;
      ty = ty;
      align = align;
    } ∷ xs else xs)
    on true = refl
    on false = nothing (price_of_all price xs)
one_price price flags at _ xs = nothing (price_of_all price xs)

pub prices_add : (price : ℕ → ℕ) (flags : ℕ → Bool) (at : ℕ) (is : List Instr)
    → slots_from price flags at is ≡ price_of_all price (anew_in flags at is)
prices_add price flags at [] = refl
prices_add price flags at (i ∷ is) =
    let e : suc at ≡ at + 1 = omega arith in
    ap (λ n. (if is_renewed flags i then price at else 0) + n) (ap (λ k. slots_from price flags k is) e
    ∙ prices_add price flags (at + 1) is)
    ∙ one_price price flags at i (anew_in flags (at + 1) is)

pub entering_costs : (p : Prices) (g : RenewedGiven) (from label : ℕ) (xs : List Anew) (at : ℕ) (s : State)
    → s.outcome ≡ Outcome.Running → AreNext (g.flags s.top.func) (function_of g.given s) at xs
    → cost_from (renewed_step g) (renewed_price p g.given) (length xs) (renew_after g s from label (renewed_from
    (g.flags s.top.func) (function_of g.given s) at)) ≡ price_of_all (p.slot s.top.func) xs
entering_costs p g from label [] at s runs next = refl
entering_costs p g from label (x ∷ xs) at s runs next =
    let e : State = at_point (with_mode s (Mode.Entering from label)) (record { block = 0; at = x.at }) in
    ap (λ q. cost_from (renewed_step g) (renewed_price p g.given) (length (x ∷ xs)) (renew_after g s from label q))
    next.0
    ∙ ap (λ t. p.slot s.top.func x.at + cost_from (renewed_step g) (renewed_price p g.given) (length xs) t)
    (entering_step g e from label x.name x.align x.ty runs refl next.1 next.2 next.3)
    ∙ ap (λ n. p.slot s.top.func x.at + n) (entering_costs p g from label xs (x.at + 1) (made_anew g e x.name x.ty
    x.align) runs next.4)
