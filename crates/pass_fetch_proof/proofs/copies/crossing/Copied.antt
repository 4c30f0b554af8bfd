-- The copies at begin use slots, their temporaries and cells alone.
use Rattle.std.proofs.Common.{◌≡◌, inl, inr, ℕ, zero, suc, ◌<◌, ◌≤◌, Bool, true, false, List, [], ◌∷◌, ◌++◌, append_assoc, length, refl, sym, ap, ◌∙◌, subst, arith}
use Rattle.std.specs.Prelude.{Some, if◌then◌else◌, map, slice_get}
use Rattle.pass_copies.specs.BeginCopies.{after_block, after_instr, after_instrs, begin_copies, behind, block_front, copied_block, copied_blocks, copied_instrs, copy, copying_of, entry_front, first_fetched, is_fetched, put, puts, slot_allocas, with_begin_copies}
use Rattle.pass_copies.specs.Slots.{entry_instrs}
use Rattle.pass_copies.specs.Uses.{flag_at, is_begin, still_before, used_before}
use Rattle.pass_copies.specs.declared.copying.Copying.{Copying}
use Rattle.pass_copies.specs.declared.slot.EarlySlot.{EarlySlot}
use Rattle.pass_edges_proof.proofs.rule_laws.rules.crossing.Follows.{IsExtra}
use Rattle.pass_fetch_proof.proofs.copies.rules.Slots.{cell_found, cell_named, front_range, from_allocas, numbered, temporary_named}
use Rattle.pass_fetch_proof.specs.copies.rules.Copies.{copied_slots, front_names}
use Rattle.pass_edges_proof.proofs.ir_laws.paths.source_rules.Locals.{listed_left}
use Rattle.pass_fetch_proof.proofs.fetch.rules.Puts.{fetch_rises}
use Rattle.pass_fetch_proof.specs.fetch.rules.Fetches.{base_of}
use Rattle.pass_edges_proof.specs.flow_solver.Paths.{IsListed}
use Rattle.pass_edges_proof.proofs.rule_laws.frames.needed.Apart.{apart_no_value}
use Rattle.pass_fetch_proof.proofs.fetch.crossing.Fetched.{one_follows}
use Rattle.pass_edges_proof.proofs.rule_laws.frames.needed.Others.{IsOther}
use Rattle.pass_edges_proof.proofs.rule_laws.frames.needed.Follows.{Ended, Follows, Same, extras_follow}
use Rattle.pass_edges_proof.specs.ir_parts.Contents.{instr_operands, result_of}
use Rattle.pass_edges_proof.specs.rule_laws.rules.function_rules.Kept.{KeepsFunctionRules}
use Rattle.ir_model.specs.declared.instr.Instr.{Instr}
use Rattle.ir_model.specs.declared.module.Block.{Block}
use Rattle.ir_model.specs.declared.module.Function.{Function}
use Rattle.ir_model.specs.declared.module.Module.{Module}
use Rattle.ir_model.specs.declared.operand.Operand.{Operand}
use Rattle.pass_edges_proof.specs.ir_paths.Windows.{instr_at, instr_in}
use Rattle.pass_edges_proof.specs.ir_paths.declared.point.Point.{Point}
use Rattle.pass_edges_proof.specs.run_laws.changed.Changed.{Each}
use Rattle.pass_edges_proof.specs.frame_crossing.Values.{is_apart, values_of}
use Rattle.pass_edges_proof.specs.pass_fetch.Fetching.{fetch_of}
use Rattle.pass_edges_proof.specs.pass_fetch.Instrs.{fetched_instr, next_after_instr}
use Rattle.pass_edges_proof.specs.pass_fetch.declared.fetch.Fetch.{Fetch}
use Rattle.pass_edges_proof.proofs.ir_laws.paths.woven_rules.Unbroken.{of_listed}
use Rattle.pass_edges_proof.proofs.ir_laws.paths.crossing.Values.{listed_at}

-- the slot isn't the value, and its temporary and its cell are new
record IsSpare (first v : ℕ) (s : EarlySlot) : Type 0 where
  slot : s.slot ≡ v → ⊥
  temporary : first ≤ s.temporary
  cell : first ≤ s.cell

module _ (c : Copying) (first v : ℕ) (old : v < first) (spare : Each (IsSpare first v) c.slots) (based : (u : ℕ) (x : Fetch) → fetch_of c.fetches (Operand.Local u) ≡ Some x → base_of x ≡ v → ⊥) where
  new_other : (n : ℕ) → first ≤ n → v ≡ n → ⊥
  new_other n low e = absurd (omega (arith, e, low, old))

  put_extra : (a n : ℕ) → (v ≡ a → ⊥) → (v ≡ n → ⊥) → IsExtra v (put a n)
  put_extra a n h k = record { unused = unused; other = λ e. absurd (cc) }
    where
      unused : IsListed v (a ∷ n ∷ []) → ⊥
      unused (inl e) = h e
      unused (inr (inl e)) = k e
      unused (inr (inr l)) = l

  copy_extra : (s : EarlySlot) → IsSpare first v s → IsExtra v (copy s)
  copy_extra s h = record { unused = unused; other = λ e. absurd (cc) }
    where
      unused : IsListed v (s.slot ∷ s.temporary ∷ []) → ⊥
      unused (inl e) = h.slot (sym e)
      unused (inr (inl e)) = new_other s.temporary h.temporary e
      unused (inr (inr l)) = l

  slot_put : (s : EarlySlot) → IsSpare first v s → IsExtra v (put s.slot s.cell)
  slot_put s h = put_extra s.slot s.cell (λ e. h.slot (sym e)) (new_other s.cell h.cell)

  puts_extra : (ss : List EarlySlot) → Each (IsSpare first v) ss → Each (IsExtra v) (puts ss)
  puts_extra [] h = tt
  puts_extra (s ∷ ss) h = (slot_put s h.0, puts_extra ss h.1)

  copies_extra : (ss : List EarlySlot) → Each (IsSpare first v) ss → Each (IsExtra v) (begin_copies ss)
  copies_extra [] h = tt
  copies_extra (s ∷ ss) h = (copy_extra s h.0, (slot_put s h.0, copies_extra ss h.1))

  if_extra : (b : Bool) (xs : List Instr) → Each (IsExtra v) xs → Each (IsExtra v) (if b then xs else [])
  if_extra true xs h = h
  if_extra false xs h = tt

  behind_extra : (i : Instr) → Each (IsExtra v) (behind c i)
  behind_extra i = if_extra (is_begin i) (begin_copies c.slots) (copies_extra c.slots spare)

  front_extra : (label : ℕ) → Each (IsExtra v) (block_front c label)
  front_extra label = if_extra (flag_at c.resumed label) (puts c.slots) (puts_extra c.slots spare)

  one_rises : (is_before : Bool) (n : ℕ) (i : Instr) → first ≤ n → first ≤ after_instr c is_before n i
  one_rises is_before n i low = on (is_fetched is_before i)
    where
      on : (b : Bool) → first ≤ (if b then next_after_instr c.fetches n i else n)
      on true = let more : n ≤ next_after_instr c.fetches n i = fetch_rises c.fetches n (instr_operands i) in omega (arith, low, more)
      on false = low

  instrs_follow : (is_before : Bool) (n : ℕ) (is : List Instr) → first ≤ n → Follows v is (copied_instrs c is_before n is)
  instrs_follow is_before n [] low = Ended
  instrs_follow is_before n (i ∷ is) low =
      let rest : List Instr = copied_instrs c (still_before is_before i) (after_instr c is_before n i) is in
      let more : Follows v is (behind c i ++ rest) = extras_follow v (behind c i) is rest (behind_extra i) (instrs_follow (still_before is_before i) (after_instr c is_before n i) is (one_rises is_before n i low)) in
      subst (Follows v (i ∷ is)) (sym (append_assoc (if is_fetched is_before i then fetched_instr c.fetches n i else i ∷ []) (behind c i) rest)) (on (is_fetched is_before i) (behind c i ++ rest) more)
    where
      on : (b : Bool) (js : List Instr) → Follows v is js → Follows v (i ∷ is) ((if b then fetched_instr c.fetches n i else i ∷ []) ++ js)
      on true js h = one_follows c.fetches first v old based n i is js low h
      on false js h = Same i i is js (λ u. u) refl h

  instrs_rise : (is_before : Bool) (n : ℕ) (is : List Instr) → first ≤ n → first ≤ after_instrs c is_before n is
  instrs_rise is_before n [] low = low
  instrs_rise is_before n (i ∷ is) low = instrs_rise (still_before is_before i) (after_instr c is_before n i) is (one_rises is_before n i low)

  -- ---- blocks but for the entry block

  module _ (before : List Bool) where
    later_follows : (n : ℕ) (bs : List Block) → first ≤ n → (q : ℕ) (b d : Block) → slice_get bs q ≡ Some b → slice_get (copied_blocks c before [] n bs) q ≡ Some d → Follows v b.instrs d.instrs
    later_follows n [] low q b d e h = absurd (cc)
    later_follows n (x ∷ bs) low zero b d e h =
        let one : x ≡ b = cc in
        let two : copied_block c before [] n x ≡ d = cc in
        subst (λ (y : Block). Follows v y.instrs d.instrs) one
        (subst (λ (y : Block). Follows v x.instrs y.instrs) two
        (extras_follow v (block_front c x.label) x.instrs (copied_instrs c (flag_at before x.label) n x.instrs) (front_extra x.label) (instrs_follow (flag_at before x.label) n x.instrs low)))
    later_follows n (x ∷ bs) low (suc q) b d e h = later_follows (after_block c before n x) bs (instrs_rise (flag_at before x.label) n x.instrs low) q b d e h

    blocks_follow : (front : List Instr) (n : ℕ) (bs : List Block) → first ≤ n → (q : ℕ) (b d : Block) → slice_get bs q ≡ Some b → slice_get (copied_blocks c before front n bs) q ≡ Some d → (q ≡ 0 → ⊥) → Follows v b.instrs d.instrs
    blocks_follow front n [] low q b d e h other = absurd (cc)
    blocks_follow front n (x ∷ bs) low zero b d e h other = absurd (other refl)
    blocks_follow front n (x ∷ bs) low (suc q) b d e h other = later_follows (after_block c before n x) bs (instrs_rise (flag_at before x.label) n x.instrs low) q b d e h

-- an instruction of the entry block
entry_point : (f : Function) (i : Instr) → IsListed i (entry_instrs f.blocks) → (p : Point) × (instr_at f p ≡ Some i)
entry_point f i l = on f.blocks refl l
  where
    on : (bs : List Block) → f.blocks ≡ bs → IsListed i (entry_instrs bs) → (p : Point) × (instr_at f p ≡ Some i)
    on [] e h = absurd h
    on (b ∷ bs) e h =
        let x = listed_at b.instrs i h in
        (record { block = 0; at = x.0 }, ap (λ (cs : List Block). instr_in (slice_get cs 0) x.0) e ∙ x.1)

-- a front is an alloca
record IsFrontAlloca (ss : List EarlySlot) (v : ℕ) : Type 0 where
  instr : Instr
  listed : IsListed instr (slot_allocas ss)
  makes : result_of instr ≡ Some v
  apart : is_apart instr ≡ true

front_alloca : (ss : List EarlySlot) (v : ℕ) → IsListed v (front_names ss) → IsFrontAlloca ss v
front_alloca [] v l = absurd l
front_alloca (s ∷ ss) v (inl e) = record { instr = _; listed = inl refl; makes = ap (λ (n : ℕ). Some n) (sym e); apart = refl }
front_alloca (s ∷ ss) v (inr (inl e)) = record { instr = _; listed = inr (inl refl); makes = ap (λ (n : ℕ). Some n) (sym e); apart = refl }
front_alloca (s ∷ ss) v (inr (inr l)) = let x = front_alloca ss v l in record { instr = x.instr; listed = inr (inr x.listed); makes = x.makes; apart = x.apart }

module _ (m : Module) (k : ℕ) (f : Function) (slots before : List Bool) (sizes : List ℕ) (rules : KeepsFunctionRules m k f) where
  abbrev ss : List EarlySlot
  ss = copied_slots f slots before sizes

  abbrev c : Copying
  c = copying_of f ss

  abbrev first : ℕ
  first = length f.names

  abbrev g : Function
  g = with_begin_copies f slots before sizes

  slot_alloca : (s : EarlySlot) → IsListed s ss → IsListed (Instr.Alloca s.slot s.ty s.align) (entry_instrs f.blocks)
  slot_alloca s l = of_listed _ ss (from_allocas (used_before f slots before) sizes first (entry_instrs f.blocks) (entry_instrs f.blocks) (λ j h. h)) s l

  low : (n : ℕ) → IsListed n (front_names ss) → first ≤ n
  low n l = (front_range first n ss (numbered (used_before f slots before) sizes first (entry_instrs f.blocks)) l).0

  all_spare : (v : ℕ) → IsOther f v → (all : List EarlySlot) → ((s : EarlySlot) → IsListed s all → IsListed s ss) → Each (IsSpare first v) all
  all_spare v other [] up = tt
  all_spare v other (s ∷ all) up =
      let l : IsListed s ss = up s (inl refl) in
      let p = entry_point f (Instr.Alloca s.slot s.ty s.align) (slot_alloca s l) in (
        record {
          slot = λ e. other p.0 (Instr.Alloca s.slot s.ty s.align) p.1 (ap (λ (n : ℕ). Some n) e) refl;
          temporary = low s.temporary (temporary_named ss s l);
          cell = low s.cell (cell_named ss s l);
        },
        all_spare v other all (λ x h. up x (inr h)),
      )

  pub copies_follow : (v : ℕ) → v < length f.names → IsOther f v → (q : ℕ) (b d : Block) → slice_get f.blocks q ≡ Some b → slice_get g.blocks q ≡ Some d → (q ≡ 0 → ⊥) → Follows v b.instrs d.instrs
  copies_follow v old other =
      blocks_follow c first v old (all_spare v other ss (λ s l. l))
      (λ u x e same.
      let y = cell_found f ss u x e in
      let high : first ≤ y.slot.cell = low y.slot.cell (cell_named ss y.slot y.listed) in
      let is : y.slot.cell ≡ v = ap base_of (sym y.same) ∙ same in
      absurd (omega (arith, high, is, old)))
      before (entry_front ss) (first_fetched f c) f.blocks (omega arith)

  -- ---- temporaries and cells

  front_there : (v : ℕ) (x : IsFrontAlloca ss v) (bs : List Block) → f.blocks ≡ bs → IsListed v (front_names ss) → IsListed x.instr (entry_instrs g.blocks)
  front_there v x [] e l = absurd (no_slots ss (λ s h. subst (λ (bs : List Block). IsListed (Instr.Alloca s.slot s.ty s.align) (entry_instrs bs)) e (slot_alloca s h)) l)
    where
      no_slots : (all : List EarlySlot) → ((s : EarlySlot) → IsListed s all → ⊥) → IsListed v (front_names all) → ⊥
      no_slots [] h k = k
      no_slots (s ∷ all) h k = h s (inl refl)
  front_there v x (b ∷ bs) e l =
      subst (λ (cs : List Block). IsListed x.instr (entry_instrs (copied_blocks c before (entry_front ss) (first_fetched f c) cs))) (sym e)
      (listed_left x.instr (entry_front ss ++ block_front c b.label) (copied_instrs c (flag_at before b.label) (first_fetched f c) b.instrs)
      (listed_left x.instr (entry_front ss) (block_front c b.label)
      (listed_left x.instr (slot_allocas ss) (map (λ s. put s.temporary s.cell) ss) x.listed)))

  pub fronts_apart : KeepsFunctionRules m k g → (v : ℕ) → IsListed v (front_names ss) → IsListed v (values_of g) → ⊥
  fronts_apart now v l value =
      let x = front_alloca ss v l in
      let p = entry_point g x.instr (front_there v x f.blocks refl l) in
      apart_no_value m k g now v p.0 x.instr p.1 x.makes x.apart value
