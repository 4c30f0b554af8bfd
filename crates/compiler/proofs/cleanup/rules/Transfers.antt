-- A call that may be a transfer still stands right before its `ret void` (rule Y5).
use Rattle.std.proofs.Common.{◌≡◌, ℕ, suc, ◌+◌, Bool, true, false, List, [], ◌∷◌, ◌++◌, length, refl, sym, ap, ◌∙◌, cond, subst, arith, Option, Some, None}
use Rattle.std.proofs.lemmas.Bool.{and_from, and_parts, eq-eqb, eqb-true}
use Rattle.std.proofs.lemmas.Option.{slice_get-map}
use Rattle.std.specs.Prelude.{filter, map, not, option_map, slice_get, ◌&&◌, ◌||◌, ◌==◌}
use Rattle.ir_base.specs.declared.outcome.Place.{Place}
use Rattle.pass_cleanup.specs.Cleanup.{clean_block, clean_function, is_kept_instr}
use Rattle.compiler.proofs.cleanup.rules.Carried.{NoneIn, head_in, head_out, parts_in, parts_out}
use Rattle.pass_proofs.specs.ir_parts.Parts.{Ending, Head, OfInstr, OfPhi, Part, Signature, block_parts, block_place, blocks_parts, function_place, instr_parts, instr_place, phi_parts}
use Rattle.ir_model.specs.declared.instr.Instr.{Instr}
use Rattle.ir_model.specs.declared.instr.Phi.{Phi}
use Rattle.ir_model.specs.declared.module.Block.{Block}
use Rattle.ir_model.specs.declared.module.Function.{Function}
use Rattle.pass_proofs.specs.rule_locals.Instrs.{on_instr}
use Rattle.pass_proofs.specs.rule_locals.Transfers.{breaks_transfers, first_wrong_transfer, is_void_of_pointer, is_void_return, returns_behind}
use Rattle.pass_proofs.specs.rule_names.declared.stage.Stage.{Stage}

nothing_left : (is : List Instr) → length is ≡ 0 → length (filter is_kept_instr is) ≡ 0
nothing_left [] e = refl
nothing_left (i ∷ is) e = omega (arith, e)

-- a call breaks no more where what it asks of its place still holds
breaks_no_more : (must_tail before now rest : Bool) → (before ≡ true → now ≡ true) → (must_tail && (false || not (before && rest))) ≡ false → (must_tail && (false || not (now && rest))) ≡ false
breaks_no_more false before now rest h e = refl
breaks_no_more true true now rest h e = ap (λ (b : Bool). not (b && rest)) (h refl) ∙ e
breaks_no_more true false now rest h e = absurd (cc)

module _ (k : ℕ) (f : Function) where
  abbrev g : Function
  g = clean_function f

  abbrev old : Place → Part → Bool
  old = on_instr (breaks_transfers Stage.Plain f)

  abbrev now : Place → Part → Bool
  now = on_instr (breaks_transfers Stage.Plain g)

  module _ (block : ℕ) (b : Block) (there : slice_get f.blocks block ≡ Some b) where
    abbrev all : ℕ
    all = length b.phis + length b.instrs

    abbrev left : ℕ
    left = length b.phis + length (filter is_kept_instr b.instrs)

    still_behind : (at to : ℕ) → (at + 1 ≡ all → to + 1 ≡ left) → returns_behind (slice_get f.blocks block) (Some at) ≡ true → returns_behind (slice_get g.blocks block) (Some to) ≡ true
    still_behind at to moves e =
        let both = and_parts (at + 1 == all) (is_void_return b.term) (sym (ap (λ (o : Option Block). returns_behind o (Some at)) there) ∙ e) in
        ap (λ (o : Option Block). returns_behind o (Some to)) (slice_get-map clean_block f.blocks block ∙ ap (option_map clean_block) there)
        ∙ and_from (to + 1 == left) (is_void_return b.term) (eq-eqb (to + 1) left (moves (eqb-true (at + 1) all both.0))) both.1

    one_transfer : (at to : ℕ) (i : Instr) → (at + 1 ≡ all → to + 1 ≡ left) → breaks_transfers Stage.Plain f (instr_place k block at) i ≡ false → breaks_transfers Stage.Plain g (instr_place k block to) i ≡ false
    one_transfer at to (Instr.Call r must_tail ty callee args) moves e =
        breaks_no_more must_tail (returns_behind (slice_get f.blocks block) (Some at)) (returns_behind (slice_get g.blocks block) (Some to))
        (is_void_of_pointer f.result (map (λ p. p.ty) f.params) && is_void_of_pointer ty (map (λ a. a.ty) args)) (still_behind at to moves) e
    one_transfer at to _ moves e = refl

    -- where the last instruction stays it is the last of those that are left
    last_moves : (at to : ℕ) (is : List Instr) → at + suc (length is) ≡ all → to + suc (length (filter is_kept_instr is)) ≡ left → at + 1 ≡ all → to + 1 ≡ left
    last_moves at to is e d last = let none = nothing_left is (omega (arith, e, last)) in omega (arith, d, none)

    one_or_none : (kept : Bool) (at to : ℕ) (i : Instr) (is : List Instr) → at + suc (length is) ≡ all → to + length (cond kept (i ∷ filter is_kept_instr is) (filter is_kept_instr is)) ≡ left → old (instr_place k block at) (OfInstr i) ≡ false → ((next : ℕ) → next + length (filter is_kept_instr is) ≡ left → NoneIn now (instr_parts k block next (filter is_kept_instr is))) → NoneIn now (instr_parts k block to (cond kept (i ∷ filter is_kept_instr is) (filter is_kept_instr is)))
    one_or_none true at to i is e d here more =
        head_in now (instr_place k block to) (OfInstr i) (instr_parts k block (to + 1) (filter is_kept_instr is)) (one_transfer at to i (last_moves at to is e d) here) (more (to + 1) (omega (arith, d)))
    one_or_none false at to i is e d here more = more to d

    instrs_transfer : (at to : ℕ) (is : List Instr) → at + length is ≡ all → to + length (filter is_kept_instr is) ≡ left → NoneIn old (instr_parts k block at is) → NoneIn now (instr_parts k block to (filter is_kept_instr is))
    instrs_transfer at to [] e d h = refl
    instrs_transfer at to (i ∷ is) e d h =
        let both = head_out old (instr_place k block at) (OfInstr i) (instr_parts k block (at + 1) is) h in
        one_or_none (is_kept_instr i) at to i is e d both.0 (λ next same. instrs_transfer (at + 1) next is (omega (arith, e)) same both.1)

    phis_transfer : (at : ℕ) (ps : List Phi) → NoneIn now (phi_parts k block at ps)
    phis_transfer at [] = refl
    phis_transfer at (p ∷ ps) = head_in now (instr_place k block at) (OfPhi p) (phi_parts k block (at + 1) ps) refl (phis_transfer (at + 1) ps)

    block_transfer : NoneIn old (block_parts k block b) → NoneIn now (block_parts k block (clean_block b))
    unfolding block_parts
    block_transfer h =
        let phis : List (Place × Part) = phi_parts k block 0 b.phis in
        let instrs : List (Place × Part) = instr_parts k block (length b.phis) b.instrs in
        let ending : List (Place × Part) = (instr_place k block all, Ending b.term) ∷ [] in
        let kept : List (Place × Part) = instr_parts k block (length b.phis) (filter is_kept_instr b.instrs) in
        let last : List (Place × Part) = (instr_place k block left, Ending b.term) ∷ [] in
        let h1 = head_out old (block_place k block) (Head b) (phis ++ (instrs ++ ending)) h in
        let h2 = parts_out old phis (instrs ++ ending) h1.1 in
        let h3 = parts_out old instrs ending h2.1 in
        head_in now (block_place k block) (Head (clean_block b)) (phis ++ (kept ++ last)) refl
        (parts_in now phis (kept ++ last) (phis_transfer 0 b.phis)
        (parts_in now kept last (instrs_transfer (length b.phis) (length b.phis) b.instrs refl refl h3.0) refl))

  blocks_transfer : (block : ℕ) (bs : List Block) → ((j : ℕ) (b : Block) → slice_get bs j ≡ Some b → slice_get f.blocks (block + j) ≡ Some b) → NoneIn old (blocks_parts k block bs) → NoneIn now (blocks_parts k block (map clean_block bs))
  blocks_transfer block [] stand h = refl
  blocks_transfer block (b ∷ bs) stand h =
      let both = parts_out old (block_parts k block b) (blocks_parts k (block + 1) bs) h in
      let here : block + 0 ≡ block = omega arith in
      parts_in now (block_parts k block (clean_block b)) (blocks_parts k (block + 1) (map clean_block bs))
      (block_transfer block b (subst (λ (at : ℕ). slice_get f.blocks at ≡ Some b) here (stand 0 b refl)) both.0)
      (blocks_transfer (block + 1) bs (λ j c there. let next : block + suc j ≡ block + 1 + j = omega arith in subst (λ (at : ℕ). slice_get f.blocks at ≡ Some c) next (stand (suc j) c there)) both.1)

  pub transfers_clean : first_wrong_transfer Stage.Plain k f ≡ None → first_wrong_transfer Stage.Plain k g ≡ None
  transfers_clean h =
      let both = head_out old (function_place k) (Signature f) (blocks_parts k 0 f.blocks) h in
      head_in now (function_place k) (Signature g) (blocks_parts k 0 (map clean_block f.blocks)) refl
      (blocks_transfer 0 f.blocks (λ j b there. let same : j ≡ 0 + j = omega arith in subst (λ (at : ℕ). slice_get f.blocks at ≡ Some b) same there) both.1)
