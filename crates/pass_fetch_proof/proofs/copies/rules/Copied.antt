-- A function that copies slots at begin is one into which the copies are woven.
use Rattle.std.proofs.Common.{◌≡◌, ◌⊎◌, inl, inr, ⊎_elim, ℕ, zero, suc, ◌+◌, ◌-◌, ◌*◌, ◌<◌, ◌≤◌, Bool, true, false, List, [], ◌∷◌, ◌++◌, length, refl, sym, ap, ◌∙◌, subst, arith, append_assoc}
use Rattle.std.proofs.lemmas.Bool.{lt-ltb}
use Rattle.std.proofs.lemmas.List.{length-append}
use Rattle.std.specs.List.{list_all}
use Rattle.std.specs.Prelude.{None, Option, Some, is_some, map, nat_lt, not, option_to_list, pos, slice_get, codes, ◌&&◌, ◌^◌, if◌then◌else◌}
use Rattle.pass_copies.specs.BeginCopies.{after_block, after_blocks, after_instr, after_instrs, begin_copies, behind, block_front, copied_block, copied_blocks, copied_function, copied_instrs, copy, copying_of, entry_front, is_fetched, put, puts, slot_allocas}
use Rattle.pass_copies.specs.Slots.{entry_instrs, names_of_slot, slot_names}
use Rattle.pass_copies.specs.Uses.{flag_at, is_access, is_begin, still_before}
use Rattle.pass_copies.specs.declared.copying.Copying.{Copying}
use Rattle.pass_copies.specs.declared.slot.EarlySlot.{EarlySlot}
use Rattle.pass_fetch_proof.proofs.copies.rules.Names.{copies_once}
use Rattle.pass_fetch_proof.proofs.copies.rules.Slots.{AreNumbered, Cell, IsAlloca, IsFrontOf, Temporary, allocas_listed, cell_found, cell_named, front_allocas, front_range, one_of, temporary_named}
use Rattle.pass_fetch_proof.specs.copies.rules.Copies.{CopiesFit, HaveSlots, copy_weaving, front_names}
use Rattle.pass_edges_proof.specs.ir_base.declared.name.Name.{Name}
use Rattle.pass_edges_proof.specs.ir_base.declared.outcome.Place.{Place}
use Rattle.pass_edges_proof.specs.rule_uses.Undefined.{params_of}
use Rattle.pass_edges_proof.specs.rule_uses.Uses.{block_values, made_by_instrs, phi_values, values_at, values_in}
use Rattle.pass_edges_proof.proofs.ir_laws.facts.Members.{at_each, all_pass as all_tested, each_all}
use Rattle.pass_edges_proof.proofs.ir_laws.facts.Truth.{itself, and_both, and_first, and_second, holds, second_no}
use Rattle.pass_edges_proof.proofs.rule_laws.rules.local_rules.Names.{numbers}
use Rattle.pass_edges_proof.proofs.rule_laws.rules.local_rules.Woven.{apart_names}
use Rattle.pass_edges_proof.proofs.ir_laws.paths.source_rules.Locals.{Apart, listed_either, listed_left, listed_right}
use Rattle.pass_edges_proof.proofs.rule_laws.rules.source_rules.Locals.{block_names, made_by, names_are}
use Rattle.pass_edges_proof.proofs.ir_laws.facts.Lists.{row_of}
use Rattle.pass_fetch_proof.proofs.fetch.rules.Fetched.{numbered_length}
use Rattle.pass_fetch_proof.proofs.fetch.rules.Puts.{fetch_range, fetch_rises, fetched_woven, none_goes}
use Rattle.pass_edges_proof.proofs.rule_laws.rules.fetching_rules.Puts.{int_shallow, ptr_shallow}
use Rattle.pass_fetch_proof.proofs.fetch.rules.Times.{with_result}
use Rattle.pass_fetch_proof.specs.fetch.rules.Fetches.{FitsFetch, FitsTable, base_of}
use Rattle.pass_edges_proof.specs.flow_solver.Paths.{IsListed}
use Rattle.pass_edges_proof.specs.ir_parts.Contents.{ending_operands, instr_operands, result_of}
use Rattle.pass_edges_proof.specs.ir_parts.Locals.{locals_of}
use Rattle.pass_edges_proof.specs.ir_parts.Parts.{OfInstr, Part}
use Rattle.pass_edges_proof.specs.rule_laws.rules.function_rules.Kept.{KeepsFunctionRules}
use Rattle.ir_model.specs.Names.{position_of}
use Rattle.ir_model.specs.Ty.{int, ptr}
use Rattle.ir_model.specs.declared.instr.Instr.{Instr}
use Rattle.ir_model.specs.declared.module.Block.{Block}
use Rattle.ir_model.specs.declared.module.Function.{Function}
use Rattle.ir_model.specs.declared.module.Module.{Module}
use Rattle.ir_model.specs.declared.operand.Callee.{Callee}
use Rattle.ir_model.specs.declared.operand.Intrinsic.{Intrinsic}
use Rattle.ir_model.specs.declared.operand.Operand.{Operand}
use Rattle.pass_edges_proof.specs.rule_locals.Extents.{breaks_extents}
use Rattle.pass_edges_proof.specs.rule_locals.Instrs.{on_instr}
use Rattle.pass_edges_proof.specs.ir_locals.Tables.{or_first}
use Rattle.pass_edges_proof.specs.rule_names.Known.{is_label, is_value, knows_type, names_unknown}
use Rattle.pass_edges_proof.specs.rule_names.declared.stage.Stage.{Stage}
use Rattle.pass_edges_proof.specs.run_laws.changed.Changed.{Each}
use Rattle.pass_edges_proof.specs.rule_types.Depth.{is_shallow}
use Rattle.pass_edges_proof.specs.rule_types.Limits.{all_fit, breaks_limits, is_block_past}
use Rattle.pass_edges_proof.specs.pass_fetch.Blocks.{numbered_names}
use Rattle.pass_edges_proof.specs.pass_fetch.Fetching.{fetch_of, fetches_of_all, next_after_all}
use Rattle.pass_edges_proof.specs.pass_fetch.Instrs.{fetched_instr, next_after_instr, with_fetched}
use Rattle.pass_edges_proof.specs.pass_fetch.declared.fetch.Fetch.{Fetch}
use Rattle.pass_edges_proof.specs.rule_values.Fits.{fits_kind, is_tokenless}
use Rattle.pass_edges_proof.specs.rule_values.Kinds.{value_kind}
use Rattle.pass_edges_proof.specs.rule_values.Values.{breaks_values}
use Rattle.pass_edges_proof.specs.rule_values.declared.kinds.Kind.{Kind}
use Rattle.pass_edges_proof.proofs.rule_laws.rules.woven_rules.Once.{apart_once, names_below}
use Rattle.pass_edges_proof.proofs.ir_laws.paths.woven_rules.Once.{times_none}
use Rattle.pass_edges_proof.proofs.rule_laws.rules.woven_rules.Operands.{term_itself}
use Rattle.pass_edges_proof.proofs.rule_laws.rules.woven_rules.Pieces.{known_more, listed_woven, made_contains, phis_itself, still_stays}
use Rattle.pass_edges_proof.proofs.rule_laws.rules.woven_rules.Told.{told, value_told}
use Rattle.pass_edges_proof.proofs.rule_laws.rules.woven_rules.Unbroken.{Passes, PassesIn, all_pass}
use Rattle.pass_edges_proof.proofs.ir_laws.paths.woven_rules.Unbroken.{each_listed, of_listed}
use Rattle.pass_edges_proof.proofs.rule_laws.rules.woven_rules.Uses.{entry_alone}
use Rattle.pass_edges_proof.proofs.rule_laws.rules.woven_rules.ValueKinds.{made_grows, none_new}
use Rattle.pass_edges_proof.specs.rule_laws.rules.woven_rules.Blocks.{AreWoven, AreWovenBlocks, Done, IsFront, IsNew, IsPutIn, IsWoven, IsWovenBlock, NoBlock, OneBlock, Remain, is_mark, times_made}
use Rattle.pass_edges_proof.specs.ir_laws.facts.woven_rules.Pairs.{times}
use Rattle.pass_edges_proof.specs.rule_laws.rules.woven_rules.Weaving.{Constant, Front, IsInPlace, IsKnown, IsThere, New, Old, Same, Weaving, goes_in, kinds_with}

-- ---- names rise

module _ (c : Copying) where
  instr_rises : (is_before : Bool) (n : ℕ) (i : Instr) → n ≤ after_instr c is_before n i
  instr_rises is_before n i = on (is_fetched is_before i)
    where
      on : (b : Bool) → n ≤ (if b then next_after_instr c.fetches n i else n)
      on true = fetch_rises c.fetches n (instr_operands i)
      on false = omega arith

  instrs_rise : (is_before : Bool) (n : ℕ) (is : List Instr) → n ≤ after_instrs c is_before n is
  instrs_rise is_before n [] = omega arith
  instrs_rise is_before n (i ∷ is) =
      let next : ℕ = after_instr c is_before n i in
      let here : n ≤ next = instr_rises is_before n i in
      let more : next ≤ after_instrs c (still_before is_before i) next is = instrs_rise (still_before is_before i) next is in
      omega (arith, here, more)

  blocks_rise : (before : List Bool) (n : ℕ) (bs : List Block) → n ≤ after_blocks c before n bs
  blocks_rise before n [] = omega arith
  blocks_rise before n (b ∷ bs) =
      let next : ℕ = after_block c before n b in
      let here : n ≤ next = instrs_rise (flag_at before b.label) n b.instrs in
      let more : next ≤ after_blocks c before next bs = blocks_rise before next bs in
      omega (arith, here, more)

-- the entry block, where one of its instructions is told
record HasEntry (bs : List Block) (j : Instr) : Type 0 where
  block : Block
  there : slice_get bs 0 ≡ Some block
  inside : IsListed j block.instrs

entry_of : (bs : List Block) (j : Instr) → IsListed j (entry_instrs bs) → HasEntry bs j
entry_of [] j l = absurd l
entry_of (b ∷ bs) j l = record { block = b; there = refl; inside = l }

access_no_mark : (i : Instr) → is_access i ≡ true → is_mark i ≡ true → ⊥
access_no_mark (Instr.Load r ty x align) a b = absurd (cc)
access_no_mark (Instr.Store x y align) a b = absurd (cc)
access_no_mark (Instr.Call r must_tail ty (Callee.Intrinsic Intrinsic.MemcpyI64) args) a b = absurd (cc)
access_no_mark (Instr.Call r must_tail ty (Callee.Intrinsic Intrinsic.MemcpyI32) args) a b = absurd (cc)
access_no_mark _ a b = absurd (cc)

-- what stands behind begin is a copy or a store of a slot
pub copies_are : (ss : List EarlySlot) (j : Instr) → IsListed j (begin_copies ss) → (s : EarlySlot) × (IsListed s ss × ((j ≡ copy s) ⊎ (j ≡ put s.slot s.cell)))
copies_are [] j l = absurd l
copies_are (s ∷ ss) j (inl e) = (s, (inl refl, inl e))
copies_are (s ∷ ss) j (inr (inl e)) = (s, (inl refl, inr e))
copies_are (s ∷ ss) j (inr (inr l)) = let x = copies_are ss j l in (x.0, (inr x.1.0, x.1.1))

-- a name at the front is made by an alloca there
named_front : (ss : List EarlySlot) (n : ℕ) → IsListed n (front_names ss) → (j : Instr) × (IsListed j (slot_allocas ss) × (result_of j ≡ Some n))
named_front [] n l = absurd l
named_front (s ∷ ss) n (inl e) = (Instr.Alloca s.temporary s.ty s.align, (inl refl, ap (λ (k : ℕ). Some k) (sym e)))
named_front (s ∷ ss) n (inr (inl e)) = (Instr.Alloca s.cell ptr 8, (inr (inl refl), ap (λ (k : ℕ). Some k) (sym e)))
named_front (s ∷ ss) n (inr (inr l)) = let x = named_front ss n l in (x.0, (inr (inr x.1.0), x.1.1))

named_slot : (ss : List EarlySlot) (n : ℕ) → IsListed n (front_names ss) → (s : EarlySlot) × IsListed s ss
named_slot [] n l = absurd l
named_slot (s ∷ ss) n l = (s, inl refl)

slot_names_length : (n : ℕ) → length (slot_names n) ≡ 2 * n
slot_names_length zero = refl
slot_names_length (suc n) =
    let e = length-append (slot_names n) (names_of_slot n) in
    let d : length (slot_names n) ≡ 2 * n = slot_names_length n in
    let a : length (slot_names n ++ names_of_slot n) ≡ length (slot_names n) + 2 = e in
    omega (arith, a, d)

module _ (m : Module) (k : ℕ) (f : Function) (before : List Bool) (ss : List EarlySlot) (are : AreNumbered (length f.names) ss) (allocas : Each (IsAlloca (entry_instrs f.blocks)) ss) (keeps : KeepsFunctionRules m k f) (fit : CopiesFit f ss) where
  abbrev c : Copying
  c = copying_of f ss

  abbrev First : ℕ
  First = length f.names

  abbrev Fetched : ℕ
  Fetched = First + 2 * length ss

  abbrev After : ℕ
  After = after_blocks c before Fetched f.blocks

  abbrev G : Function
  G = copied_function f before c

  abbrev W : Weaving
  W = copy_weaving f before ss

  fetched_after : Fetched ≤ After
  fetched_after = blocks_rise c before Fetched f.blocks

  old_low : (v : ℕ) → IsListed v (numbers f) → v < First
  old_low = names_below k f keeps.tabled

  once : (n : ℕ) → First ≤ n → times_made n G.blocks ≤ 1
  once n low = copies_once c n before First f.blocks low are (times_none n (row_of block_names f.blocks) (λ l. let high : n < First = old_low n (listed_right n (params_of f) (row_of block_names f.blocks) l) in absurd (omega (arith, high, low))))

  new_at : (at : ℕ) (d : Block) → slice_get G.blocks at ≡ Some d → (j : Instr) (n : ℕ) → IsListed j d.instrs → result_of j ≡ Some n → First ≤ n → n < After → IsNew W j n
  new_at at d there j n l e low high = record { low = low; high = high; kind = told n G (once n low) at d j there l e }

  -- ---- the slots

  names_once : (n : ℕ) → times n (numbers f) ≤ 1
  names_once = apart_once (numbers f) (subst Apart (names_are k f) (apart_names [] (locals_of k f) keeps.definitions))

  abbrev alloca : EarlySlot → Instr
  alloca s = Instr.Alloca s.slot s.ty s.align

  entry : (s : EarlySlot) → IsListed s ss → HasEntry f.blocks (alloca s)
  entry s l = entry_of f.blocks (alloca s) (of_listed (IsAlloca (entry_instrs f.blocks)) ss allocas s l)

  slot_kind : (s : EarlySlot) → IsListed s ss → value_kind f s.slot ≡ Some Kind.Ptr
  slot_kind s l = let e = entry s l in value_told s.slot f (names_once s.slot) 0 e.block (alloca s) e.there e.inside refl ∙ ap (λ (b : Bool). if b then Some Kind.Ptr else None) (itself s.slot)

  slot_made : (s : EarlySlot) → IsListed s ss → IsListed s.slot (values_at f 0)
  slot_made s l = let e = entry s l in subst (λ (o : Option Block). IsListed s.slot (values_in o)) (sym e.there) (made_contains (phi_values e.block) e.block.instrs (alloca s) s.slot e.inside refl)

  alloca_passes : (breaks : Place → Part → Bool) → Each (PassesIn breaks) f.blocks → (s : EarlySlot) → IsListed s ss → Passes breaks (OfInstr (alloca s))
  alloca_passes breaks h s l =
      let e = entry s l in
      of_listed (λ (i : Instr). Passes breaks (OfInstr i)) e.block.instrs (at_each (PassesIn breaks) f.blocks 0 e.block h e.there).of_instrs (alloca s) e.inside

  -- what the rules say of a slot's type
  record FitsSlot (s : EarlySlot) : Type 0 where
    tokenless : is_tokenless s.ty ≡ true
    types : list_all (knows_type m) (s.ty ∷ []) ≡ true
    depths : all_fit m (s.ty ∷ []) ≡ true
    extents : (p : Place) (r : ℕ) → breaks_extents Stage.Source m p (Instr.Alloca r s.ty s.align) ≡ false

  slot_fits : (s : EarlySlot) → IsListed s ss → FitsSlot s
  slot_fits s l =
      let values = alloca_passes (breaks_values m (value_kind f) f.result) (all_pass (breaks_values m (value_kind f) f.result) k f keeps.local.values) s l in
      let known = alloca_passes (names_unknown m (is_value k f) (is_label k f)) (all_pass (names_unknown m (is_value k f) (is_label k f)) k f keeps.known) s l in
      let depths = alloca_passes (breaks_limits Stage.Plain m None) (all_pass (breaks_limits Stage.Plain m None) k f keeps.depths) s l in
      let extents = alloca_passes (on_instr (breaks_extents Stage.Source m)) (all_pass (on_instr (breaks_extents Stage.Source m)) k f keeps.local.extents) s l in
      record {
        tokenless = holds (is_tokenless s.ty) values.1;
        types = and_first (list_all (knows_type m) (s.ty ∷ [])) true (holds (list_all (knows_type m) (s.ty ∷ []) && true) known.1);
        depths = holds (all_fit m (s.ty ∷ [])) (second_no (is_block_past Stage.Plain depths.0.block) (not (all_fit m (s.ty ∷ []))) depths.1);
        extents = λ p r. extents.1;
      }

  -- ---- the entry block of the result

  copied_first : (bs : List Block) (front : List Instr) (n : ℕ) (b : Block) → slice_get bs 0 ≡ Some b → slice_get (copied_blocks c before front n bs) 0 ≡ Some (copied_block c before front n b)
  copied_first [] front n b e = absurd (cc)
  copied_first (d ∷ bs) front n b e = let is_one : d ≡ b = cc in ap (λ (x : Block). Some (copied_block c before front n x)) is_one

  abbrev Entry : Block → Block
  Entry b = copied_block c before (entry_front ss) Fetched b

  entry_there : (b : Block) → slice_get f.blocks 0 ≡ Some b → slice_get G.blocks 0 ≡ Some (Entry b)
  entry_there b e = copied_first f.blocks (entry_front ss) Fetched b e

  abbrev Stores : List Instr
  Stores = map (λ (s : EarlySlot). put s.temporary s.cell) ss

  front_inside : (b : Block) (j : Instr) → IsListed j (slot_allocas ss) → IsListed j (Entry b).instrs
  front_inside b j l =
      listed_left j (entry_front ss ++ block_front c b.label) (copied_instrs c (flag_at before b.label) Fetched b.instrs)
      (listed_left j (entry_front ss) (block_front c b.label) (listed_left j (slot_allocas ss) Stores l))

  front_low : (n : ℕ) → IsListed n (front_names ss) → First ≤ n
  front_low n l = (front_range First n ss are l).0

  front_new : (b : Block) → slice_get f.blocks 0 ≡ Some b → (n : ℕ) → IsListed n (front_names ss) → (j : Instr) → IsListed j (slot_allocas ss) → result_of j ≡ Some n → IsNew W j n
  front_new b e n l j inside makes =
      let r = front_range First n ss are l in
      let high : n < Fetched = r.1 in
      let up : Fetched ≤ After = fetched_after in
      new_at 0 (Entry b) (entry_there b e) j n (front_inside b j inside) makes r.0 (omega (arith, high, up))

  -- ---- kinds

  new_pointer : (n : ℕ) → First ≤ n → W.kinds n ≡ Some Kind.Ptr → kinds_with W f n ≡ Some Kind.Ptr
  new_pointer n low e = ap (λ (o : Option Kind). or_first o (W.kinds n)) (none_new W m f G n low old_low) ∙ e

  temporary_pointer : (s : EarlySlot) → IsListed s ss → kinds_with W f s.temporary ≡ Some Kind.Ptr
  temporary_pointer s l =
      let e = entry s l in
      let name = temporary_named ss s l in
      let j : Instr = Instr.Alloca s.temporary s.ty s.align in
      new_pointer s.temporary (front_low s.temporary name) (sym (front_new e.block e.there s.temporary name j (allocas_listed ss s l).0 refl).kind ∙ ap (λ (b : Bool). if b then Some Kind.Ptr else None) (itself s.temporary))

  cell_pointer : (s : EarlySlot) → IsListed s ss → kinds_with W f s.cell ≡ Some Kind.Ptr
  cell_pointer s l =
      let e = entry s l in
      let name = cell_named ss s l in
      let j : Instr = Instr.Alloca s.cell ptr 8 in
      new_pointer s.cell (front_low s.cell name) (sym (front_new e.block e.there s.cell name j (allocas_listed ss s l).1 refl).kind ∙ ap (λ (b : Bool). if b then Some Kind.Ptr else None) (itself s.cell))

  slot_pointer : (s : EarlySlot) → IsListed s ss → kinds_with W f s.slot ≡ Some Kind.Ptr
  slot_pointer s l = ap (λ (o : Option Kind). or_first o (W.kinds s.slot)) (slot_kind s l)

  table : FitsTable (kinds_with W f) f c.fetches
  table v fetch e =
      let x = cell_found f ss v fetch e in
      subst (FitsFetch (kinds_with W f) f v) (sym x.same)
      (record { right = (refl, refl); gives = subst (λ (n : ℕ). value_kind f n ≡ Some Kind.Ptr) x.value (slot_kind x.slot x.listed); pointer = cell_pointer x.slot x.listed })

  stays : (v : ℕ) → W.goes v ≡ false
  stays v = refl

  still : (x : Operand) → goes_in W x ≡ false
  still = none_goes W m f c.fetches table stays

  -- ---- what is known

  -- the front's values are known
  abbrev FrontKnown : ℕ → List ℕ → Type 0
  FrontKnown block now = (n : ℕ) → IsListed n (front_names ss) → IsKnown W f block now (Operand.Local n)

  front_more : (block : ℕ) (made now : List ℕ) → ((n : ℕ) → IsListed n made → IsListed n now) → FrontKnown block made → FrontKnown block now
  front_more block made now up h n l = known_more W f block made now up (Operand.Local n) (h n l)

  slot_there : (block : ℕ) (spot now : List ℕ) (s : EarlySlot) → IsListed s ss → IsThere f block spot s.slot → ((n : ℕ) → IsListed n spot → IsListed n now) → IsKnown W f block now (Operand.Local s.slot)
  slot_there block spot now s l there up = Old s.slot refl (ap (λ (o : Option Kind). is_some o) (slot_kind s l)) (λ reach unmade no_param. there reach (λ h. unmade (up s.slot h)) no_param)

  -- ---- what is put in

  store_put : (block : ℕ) (now : List ℕ) (a d : ℕ) → kinds_with W f a ≡ Some Kind.Ptr → kinds_with W f d ≡ Some Kind.Ptr → IsKnown W f block now (Operand.Local a) → IsKnown W f block now (Operand.Local d) → IsPutIn W m f block now (put a d)
  store_put block now a d ka kd known_a known_d =
      record {
        result = λ n e. absurd (cc);
        operands = (known_a, (known_d, tt));
        stands = refl;
        fits = and_both (true && fits_kind (kinds_with W f a) ptr) (fits_kind (kinds_with W f d) ptr) (and_both true (fits_kind (kinds_with W f a) ptr) refl (ap (λ (o : Option Kind). fits_kind o ptr) ka)) (ap (λ (o : Option Kind). fits_kind o ptr) kd);
        types = refl;
        depths = and_both (is_shallow m.types ptr) true (ptr_shallow m.types) refl;
        extents = λ p. refl;
        calls = λ p. refl;
      }

  copy_put : (block : ℕ) (now : List ℕ) (s : EarlySlot) → IsListed s ss → s.size < 2 ^ 64 → IsKnown W f block now (Operand.Local s.slot) → IsKnown W f block now (Operand.Local s.temporary) → IsPutIn W m f block now (copy s)
  copy_put block now s l small known_slot known_temporary =
      let slot : fits_kind (kinds_with W f s.slot) ptr ≡ true = ap (λ (o : Option Kind). fits_kind o ptr) (slot_pointer s l) in
      let temporary : fits_kind (kinds_with W f s.temporary) ptr ≡ true = ap (λ (o : Option Kind). fits_kind o ptr) (temporary_pointer s l) in
      let size : nat_lt s.size (2 ^ 64) ≡ true = lt-ltb s.size (2 ^ 64) small in
      record {
        result = λ n e. absurd (cc);
        operands = (known_slot, (known_temporary, (Constant (Operand.Number (pos s.size)) refl, (Constant Operand.False refl, tt))));
        stands = refl;
        fits =
            and_both true ((true && fits_kind (kinds_with W f s.slot) ptr) && ((true && fits_kind (kinds_with W f s.temporary) ptr) && ((true && nat_lt s.size (2 ^ 64)) && true))) refl
            (and_both (true && fits_kind (kinds_with W f s.slot) ptr) ((true && fits_kind (kinds_with W f s.temporary) ptr) && ((true && nat_lt s.size (2 ^ 64)) && true)) (and_both true (fits_kind (kinds_with W f s.slot) ptr) refl slot)
            (and_both (true && fits_kind (kinds_with W f s.temporary) ptr) ((true && nat_lt s.size (2 ^ 64)) && true) (and_both true (fits_kind (kinds_with W f s.temporary) ptr) refl temporary)
            (and_both (true && nat_lt s.size (2 ^ 64)) true (and_both true (nat_lt s.size (2 ^ 64)) refl size) refl)));
        types = refl;
        depths = all_tested (is_shallow m.types) (ptr ∷ ptr ∷ int 64 ∷ int 1 ∷ []) (ptr_shallow m.types, (ptr_shallow m.types, (int_shallow m.types 64, (int_shallow m.types 1, tt))));
        extents = λ p. refl;
        calls = λ p. refl;
      }

  only_new : (n : ℕ) (j : Instr) → IsNew W j n → (v : ℕ) → Some n ≡ Some v → IsNew W j v
  only_new n j h v e = let same : n ≡ v = cc in subst (IsNew W j) same h

  front_put : (b : Block) → slice_get f.blocks 0 ≡ Some b → (j : Instr) → IsListed j (slot_allocas ss) → (now : List ℕ) → IsPutIn W m f 0 now j
  front_put b e j l now = on j (front_allocas ss j l) l
    where
      on : (j : Instr) → IsFrontOf ss j → IsListed j (slot_allocas ss) → IsPutIn W m f 0 now j
      on _ (Temporary s h) inside =
          let fits : FitsSlot s = slot_fits s h in
          record {
            result = only_new s.temporary (Instr.Alloca s.temporary s.ty s.align) (front_new b e s.temporary (temporary_named ss s h) (Instr.Alloca s.temporary s.ty s.align) inside refl);
            operands = tt;
            stands = refl;
            fits = fits.tokenless;
            types = fits.types;
            depths = fits.depths;
            extents = λ p. fits.extents p s.temporary;
            calls = λ p. refl;
          }
      on _ (Cell s h) inside =
          record {
            result = only_new s.cell (Instr.Alloca s.cell ptr 8) (front_new b e s.cell (cell_named ss s h) (Instr.Alloca s.cell ptr 8) inside refl);
            operands = tt;
            stands = refl;
            fits = refl;
            types = refl;
            depths = and_both (is_shallow m.types ptr) true (ptr_shallow m.types) refl;
            extents = λ p. refl;
            calls = λ p. refl;
          }

  -- ---- behind an instruction

  behind_woven : (at : ℕ) (spot now : List ℕ) (i : Instr) (is tail : List Instr) → (is_begin i ≡ true → Each (λ (s : EarlySlot). IsThere f at spot s.slot) ss) → ((n : ℕ) → IsListed n spot → IsListed n now) → FrontKnown at now → ((later : List ℕ) → ((n : ℕ) → IsListed n now → IsListed n later) → AreWoven W m f at later is tail) → AreWoven W m f at now is (behind c i ++ tail)
  behind_woven at spot now i is tail slots up front rest = on (is_begin i) refl
    where
      one : (begins : is_begin i ≡ true) (j : Instr) → IsListed j (begin_copies ss) → (later : List ℕ) → ((n : ℕ) → IsListed n now → IsListed n later) → IsPutIn W m f at later j
      one begins j l later more =
          let x = copies_are ss j l in
          let s : EarlySlot = x.0 in
          let there : IsThere f at spot s.slot = of_listed (λ (s : EarlySlot). IsThere f at spot s.slot) ss (slots begins) s x.1.0 in
          let known : IsKnown W f at later (Operand.Local s.slot) = slot_there at spot later s x.1.0 there (λ n h. more n (up n h)) in
          let new : FrontKnown at later = front_more at now later more front in
          ⊎_elim
          (λ (e : j ≡ copy s). subst (IsPutIn W m f at later) (sym e) (copy_put at later s x.1.0 (of_listed (λ (s : EarlySlot). s.size < 2 ^ 64) ss fit.small s x.1.0) known (new s.temporary (temporary_named ss s x.1.0))))
          (λ (e : j ≡ put s.slot s.cell). subst (IsPutIn W m f at later) (sym e) (store_put at later s.slot s.cell (slot_pointer s x.1.0) (cell_pointer s x.1.0) known (new s.cell (cell_named ss s x.1.0))))
          x.1.1

      on : (b : Bool) → is_begin i ≡ b → AreWoven W m f at now is ((if b then begin_copies ss else []) ++ tail)
      on true e = listed_woven W m f at now (begin_copies ss) is tail (one e) (rest (made_by_instrs now (begin_copies ss)) (λ n h. made_grows (begin_copies ss) now n h))
      on false e = rest now (λ n h. h)

  -- ---- instructions

  knows_cell : (at : ℕ) (made : List ℕ) → FrontKnown at made → (x : Operand) (fetch : Fetch) → fetch_of c.fetches x ≡ Some fetch → (now : List ℕ) → ((n : ℕ) → IsListed n made → IsListed n now) → IsKnown W f at now (Operand.Local (base_of fetch))
  knows_cell at made front (Operand.Local v) fetch e now up =
      let x = cell_found f ss v fetch e in
      subst (λ (y : Fetch). IsKnown W f at now (Operand.Local (base_of y))) (sym x.same) (front_more at made now up front x.slot.cell (cell_named ss x.slot x.listed))
  knows_cell at made front _ fetch e now up = absurd (cc)

  new_fetches : (at : ℕ) (d : Block) → slice_get G.blocks at ≡ Some d → (n : ℕ) (xs : List Operand) → Fetched ≤ n → next_after_all c.fetches n xs ≤ After → ((j : Instr) → IsListed j (fetches_of_all c.fetches n xs) → IsListed j d.instrs) → (j : Instr) (v : ℕ) → IsListed j (fetches_of_all c.fetches n xs) → result_of j ≡ Some v → IsNew W j v
  new_fetches at d there n xs low high inside j v l e =
      let r = fetch_range c.fetches n xs j v l e in
      let above : n ≤ v = r.0 in
      let under : v < next_after_all c.fetches n xs = r.1 in
      new_at at d there j v (inside j l) e (omega (arith, low, above)) (omega (arith, high, under))

  grown_by : (t : List (Option Fetch)) (n : ℕ) (i : Instr) (spot made now : List ℕ) → ((v : ℕ) → IsListed v spot → IsListed v made) → ((v : ℕ) → IsListed v made → IsListed v now) → (v : ℕ) → IsListed v (made_by i ++ spot) → IsListed v (made_by (with_fetched t n i) ++ now)
  grown_by t n i spot made now up more v l =
      ⊎_elim
      (λ here. listed_left v (made_by (with_fetched t n i)) now (subst (λ (o : Option ℕ). IsListed v (option_to_list o)) (sym (with_result t n i)) here))
      (λ old. listed_right v (made_by (with_fetched t n i)) now (more v (up v old)))
      (listed_either v (made_by i) spot l)

  joined_more : (xs made now : List ℕ) → ((v : ℕ) → IsListed v made → IsListed v now) → (v : ℕ) → IsListed v (xs ++ made) → IsListed v (xs ++ now)
  joined_more xs made now up v l = ⊎_elim (λ here. listed_left v xs now here) (λ old. listed_right v xs now (up v old)) (listed_either v xs made l)

  instrs_copied : (at : ℕ) (d : Block) → slice_get G.blocks at ≡ Some d → (is_before : Bool) (n : ℕ) (spot made : List ℕ) (is : List Instr) → ((v : ℕ) → IsListed v spot → IsListed v made) → FrontKnown at made → HaveSlots f ss at spot is → Fetched ≤ n → after_instrs c is_before n is ≤ After → ((j : Instr) → IsListed j (copied_instrs c is_before n is) → IsListed j d.instrs) → AreWoven W m f at made is (copied_instrs c is_before n is)
  instrs_copied at d there is_before n spot made [] up front slots low high inside = Done made
  instrs_copied at d there is_before n spot made (i ∷ is) up front slots low high inside =
      let next : ℕ = after_instr c is_before n i in
      let later : Bool = still_before is_before i in
      let one : List Instr = if is_fetched is_before i then fetched_instr c.fetches n i else i ∷ [] in
      let tail : List Instr = copied_instrs c later next is in
      let rises : n ≤ next = instr_rises c is_before n i in
      let more : next ≤ after_instrs c later next is = instrs_rise c later next is in
      let rest : (now : List ℕ) → ((v : ℕ) → IsListed v (made_by i ++ spot) → IsListed v now) → FrontKnown at now → AreWoven W m f at now is tail =
      λ now grown known. instrs_copied at d there later next (made_by i ++ spot) now is grown known slots.1 (omega (arith, low, rises)) high (λ j l. inside j (listed_right j (one ++ behind c i) tail l))
      in
      let after : (now : List ℕ) → ((v : ℕ) → IsListed v (made_by i ++ spot) → IsListed v now) → FrontKnown at now → AreWoven W m f at now is (behind c i ++ tail) =
      λ now grown known. behind_woven at (made_by i ++ spot) now i is tail slots.0 grown known (λ then_now up2. rest then_now (λ v l. up2 v (grown v l)) (front_more at now then_now up2 known))
      in
      subst (λ (l : List Instr). AreWoven W m f at made (i ∷ is) l) (sym (append_assoc one (behind c i) tail))
      (on (is_fetched is_before i) refl after (λ b e. let bound : next ≤ After = omega (arith, more, high) in subst (λ (x : ℕ). x ≤ After) (ap (λ (b : Bool). if b then next_after_instr c.fetches n i else n) e) bound)
      (λ j l. inside j (listed_left j (one ++ behind c i) tail (listed_left j one (behind c i) l))))
    where
      on : (b : Bool) → is_fetched is_before i ≡ b → ((now : List ℕ) → ((v : ℕ) → IsListed v (made_by i ++ spot) → IsListed v now) → FrontKnown at now → AreWoven W m f at now is (behind c i ++ copied_instrs c (still_before is_before i) (after_instr c is_before n i) is)) → ((b : Bool) → is_fetched is_before i ≡ b → (if b then next_after_instr c.fetches n i else n) ≤ After) → ((j : Instr) → IsListed j (if is_fetched is_before i then fetched_instr c.fetches n i else i ∷ []) → IsListed j d.instrs) → AreWoven W m f at made (i ∷ is) ((if b then fetched_instr c.fetches n i else i ∷ []) ++ (behind c i ++ copied_instrs c (still_before is_before i) (after_instr c is_before n i) is))
      on true e after bound within =
          let fetches : List Instr = fetches_of_all c.fetches n (instr_operands i) in
          let now : List ℕ = made_by_instrs made fetches in
          fetched_woven W m f c.fetches table stays at made n i is (behind c i ++ copied_instrs c (still_before is_before i) (after_instr c is_before n i) is)
          (each_all (λ (x : Operand). (fetch : Fetch) → fetch_of c.fetches x ≡ Some fetch → (later : List ℕ) → ((v : ℕ) → IsListed v made → IsListed v later) → IsKnown W f at later (Operand.Local (base_of fetch))) (knows_cell at made front) (instr_operands i))
          (λ mark. absurd (access_no_mark i (and_second is_before (is_access i) e) mark))
          (new_fetches at d there n (instr_operands i) low (bound true e)
          (λ j l. within j (subst (λ (b : Bool). IsListed j (if b then fetched_instr c.fetches n i else i ∷ [])) (sym e) (listed_left j fetches (with_fetched c.fetches n i ∷ []) l))))
          (after (made_by (with_fetched c.fetches n i) ++ now) (grown_by c.fetches n i spot made now up (λ v l. made_grows fetches made v l))
          (front_more at made (made_by (with_fetched c.fetches n i) ++ now) (λ v l. listed_right v (made_by (with_fetched c.fetches n i)) now (made_grows fetches made v l)) front))
      on false e after bound within =
          Remain made i i is (behind c i ++ copied_instrs c (still_before is_before i) (after_instr c is_before n i) is)
          (still_stays W f made i (each_all (λ (x : Operand). goes_in W x ≡ false) still (instr_operands i)))
          (after (made_by i ++ made) (joined_more (made_by i) spot made up) (front_more at made (made_by i ++ made) (λ v l. listed_right v (made_by i) made l) front))

  -- ---- blocks

  abbrev InPlace : ℕ → Operand → Operand → Type 0
  InPlace from = IsInPlace W f (values_at G (position_of G from))

  woven_block : (at : ℕ) (b : Block) (front : List Instr) (n : ℕ) → AreWoven W m f at (phi_values b) b.instrs (copied_block c before front n b).instrs → IsWovenBlock W m f G at b (copied_block c before front n b)
  woven_block at b front n h =
      record {
        label = refl;
        phis = phis_itself InPlace (λ from x. Same x (still x)) b.phis;
        instrs = h;
        term = term_itself (IsInPlace W f (block_values (copied_block c before front n b))) b.term (each_all (λ (x : Operand). IsInPlace W f (block_values (copied_block c before front n b)) x x) (λ x. Same x (still x)) (ending_operands b.term));
      }

  -- the stores at the front of a block on a resume or destroy edge
  front_stores : (at : ℕ) (label : ℕ) → (flag_at c.resumed label ≡ true → at ≡ 0 → ⊥) → (now : List ℕ) → FrontKnown at now → (j : Instr) → IsListed j (block_front c label) → (later : List ℕ) → ((v : ℕ) → IsListed v now → IsListed v later) → IsPutIn W m f at later j
  front_stores at label past now front j l later up = on (flag_at c.resumed label) refl l
    where
      on : (b : Bool) → flag_at c.resumed label ≡ b → IsListed j (if b then puts ss else []) → IsPutIn W m f at later j
      on false e h = absurd h
      on true e h =
          let x = one_of (λ (s : EarlySlot). put s.slot s.cell) ss j h in
          let s : EarlySlot = x.0 in
          let there : IsThere f at [] s.slot = λ reach unmade no_param. past e (entry_alone f s.slot at (slot_made s x.1.0) reach) in
          subst (IsPutIn W m f at later) (sym x.1.1)
          (store_put at later s.slot s.cell (slot_pointer s x.1.0) (cell_pointer s x.1.0) (slot_there at [] later s x.1.0 there (λ v none. absurd none)) (front_more at now later up front s.cell (cell_named ss s x.1.0)))

  other_block : (at n : ℕ) (b : Block) → (at ≡ 0 → ⊥) → slice_get f.blocks at ≡ Some b → slice_get G.blocks at ≡ Some (copied_block c before [] n b) → Fetched ≤ n → after_block c before n b ≤ After → IsWovenBlock W m f G at b (copied_block c before [] n b)
  other_block at n b past here there low high =
      let fs : List Instr = block_front c b.label in
      let is : List Instr = copied_instrs c (flag_at before b.label) n b.instrs in
      let front : FrontKnown at (phi_values b) = λ v l. Front v past l in
      let now : List ℕ = made_by_instrs (phi_values b) fs in
      woven_block at b [] n
      (listed_woven W m f at (phi_values b) fs b.instrs is (front_stores at b.label (λ e. past) (phi_values b) front)
      (instrs_copied at (copied_block c before [] n b) there (flag_at before b.label) n (phi_values b) now b.instrs (λ v l. made_grows fs (phi_values b) v l) (λ v l. Front v past l) (fit.begins at b here) low high (λ j l. listed_right j fs is l)))

  unresumed : (b : Block) → slice_get f.blocks 0 ≡ Some b → (at : ℕ) → flag_at c.resumed b.label ≡ true → at ≡ 0 → ⊥
  unresumed b here at e z = let t : true ≡ false = sym e ∙ fit.entry b here in absurd (cc)

  entry_block : (b : Block) → slice_get f.blocks 0 ≡ Some b → after_block c before Fetched b ≤ After → IsWovenBlock W m f G 0 b (Entry b)
  entry_block b here high =
      let allocs : List Instr = slot_allocas ss in
      let fs : List Instr = block_front c b.label in
      let is : List Instr = copied_instrs c (flag_at before b.label) Fetched b.instrs in
      let first : List ℕ = phi_values b in
      let second : List ℕ = made_by_instrs first allocs in
      let third : List ℕ = made_by_instrs second Stores in
      let fourth : List ℕ = made_by_instrs third fs in
      let known : FrontKnown 0 second = λ v l. let x = named_front ss v l in New v (front_low v l) (made_contains first allocs x.0 v x.1.0 x.1.1) in
      let stored : (j : Instr) → IsListed j Stores → (later : List ℕ) → ((v : ℕ) → IsListed v second → IsListed v later) → IsPutIn W m f 0 later j =
      λ j l later up.
      let x = one_of (λ (s : EarlySlot). put s.temporary s.cell) ss j l in
      let new : FrontKnown 0 later = front_more 0 second later up known in
      subst (IsPutIn W m f 0 later) (sym x.1.1)
      (store_put 0 later x.0.temporary x.0.cell (temporary_pointer x.0 x.1.0) (cell_pointer x.0 x.1.0) (new x.0.temporary (temporary_named ss x.0 x.1.0)) (new x.0.cell (cell_named ss x.0 x.1.0)))
      in
      let up_third : (v : ℕ) → IsListed v second → IsListed v third = λ v l. made_grows Stores second v l in
      let up_fourth : (v : ℕ) → IsListed v second → IsListed v fourth = λ v l. made_grows fs third v (up_third v l) in
      let last : AreWoven W m f 0 fourth b.instrs is =
      instrs_copied 0 (Entry b) (entry_there b here) (flag_at before b.label) Fetched first fourth b.instrs (λ v l. up_fourth v (made_grows allocs first v l)) (front_more 0 second fourth up_fourth known) (fit.begins 0 b here) (omega arith) high (λ j l. listed_right j (entry_front ss ++ fs) is l)
      in
      woven_block 0 b (entry_front ss) Fetched
      (subst (λ (l : List Instr). AreWoven W m f 0 first b.instrs l) (sym (append_assoc (allocs ++ Stores) fs is ∙ append_assoc allocs Stores (fs ++ is)))
      (listed_woven W m f 0 first allocs b.instrs (Stores ++ (fs ++ is)) (λ j l later up. front_put b here j l later)
      (listed_woven W m f 0 second Stores b.instrs (fs ++ is) stored
      (listed_woven W m f 0 third fs b.instrs is (front_stores 0 b.label (unresumed b here 0) third (front_more 0 second third up_third known)) last))))

  others : (at n : ℕ) (bs : List Block) → (at ≡ 0 → ⊥) → ((i : ℕ) (b : Block) → slice_get bs i ≡ Some b → slice_get f.blocks (at + i) ≡ Some b) → ((i : ℕ) (d : Block) → slice_get (copied_blocks c before [] n bs) i ≡ Some d → slice_get G.blocks (at + i) ≡ Some d) → Fetched ≤ n → after_blocks c before n bs ≤ After → AreWovenBlocks W m f G at bs (copied_blocks c before [] n bs)
  others at n [] past here there low high = NoBlock at
  others at n (b ∷ bs) past here there low high =
      let next : ℕ = after_block c before n b in
      let rises : n ≤ next = instrs_rise c (flag_at before b.label) n b.instrs in
      let more : next ≤ after_blocks c before next bs = blocks_rise c before next bs in
      let none : at + 0 ≡ at = omega arith in
      OneBlock at b (copied_block c before [] n b) bs (copied_blocks c before [] next bs)
      (other_block at n b past (subst (λ (i : ℕ). slice_get f.blocks i ≡ Some b) none (here 0 b refl)) (subst (λ (i : ℕ). slice_get G.blocks i ≡ Some (copied_block c before [] n b)) none (there 0 (copied_block c before [] n b) refl)) low (omega (arith, more, high)))
      (others (at + 1) next bs (λ e. let z : at + 1 ≡ 0 = e in omega (arith, z))
      (λ i d e. let same : at + suc i ≡ at + 1 + i = omega arith in subst (λ (x : ℕ). slice_get f.blocks x ≡ Some d) same (here (suc i) d e))
      (λ i d e. let same : at + suc i ≡ at + 1 + i = omega arith in subst (λ (x : ℕ). slice_get G.blocks x ≡ Some d) same (there (suc i) d e))
      (omega (arith, low, rises)) high)

  all_blocks : (bs : List Block) → f.blocks ≡ bs → AreWovenBlocks W m f G 0 f.blocks G.blocks
  all_blocks [] e = subst (λ (xs : List Block). AreWovenBlocks W m f G 0 xs (copied_blocks c before (entry_front ss) Fetched xs)) (sym e) (NoBlock 0)
  all_blocks (b ∷ bs) e =
      let next : ℕ = after_block c before Fetched b in
      let same : After ≡ after_blocks c before next bs = ap (after_blocks c before Fetched) e in
      let more : next ≤ after_blocks c before next bs = blocks_rise c before next bs in
      let rises : Fetched ≤ next = instrs_rise c (flag_at before b.label) Fetched b.instrs in
      let here : slice_get f.blocks 0 ≡ Some b = ap (λ (xs : List Block). slice_get xs 0) e in
      let copied : G.blocks ≡ Entry b ∷ copied_blocks c before [] next bs = ap (copied_blocks c before (entry_front ss) Fetched) e in
      subst (λ (xs : List Block). AreWovenBlocks W m f G 0 xs (copied_blocks c before (entry_front ss) Fetched xs)) (sym e)
      (OneBlock 0 b (Entry b) bs (copied_blocks c before [] next bs) (entry_block b here (omega (arith, same, more)))
      (others (0 + 1) next bs (λ z. let one : 0 + 1 ≡ 0 = z in omega (arith, one))
      (λ i d h. let at : 0 + 1 + i ≡ suc i = omega arith in subst (λ (x : ℕ). slice_get f.blocks x ≡ Some d) (sym at) (ap (λ (xs : List Block). slice_get xs (suc i)) e ∙ h))
      (λ i d h. let at : 0 + 1 + i ≡ suc i = omega arith in subst (λ (x : ℕ). slice_get G.blocks x ≡ Some d) (sym at) (ap (λ (xs : List Block). slice_get xs (suc i)) copied ∙ h))
      rises (omega (arith, same))))

  fronts_made : Each (IsFront W G) (front_names ss)
  fronts_made =
      each_listed (IsFront W G) (front_names ss)
      (λ n l.
      let s = named_slot ss n l in
      let e = entry s.0 s.1 in
      let x = named_front ss n l in
      (front_low n l, subst (λ (o : Option Block). IsListed n (values_in o)) (sym (entry_there e.block e.there)) (made_contains (phi_values (Entry e.block)) (Entry e.block).instrs x.0 n (front_inside e.block x.0 x.1.0) x.1.1)))

  pub copies_woven : IsWoven W m f G
  copies_woven =
      record {
        name = refl;
        result = refl;
        params = refl;
        coroutine = refl;
        first = refl;
        after =
            let up : Fetched ≤ After = fetched_after in
            let fronts : List Name = slot_names (length ss) in
            let rest : List Name = numbered_names (codes "$c.there.") (After - Fetched) in
            let a : length ((f.names ++ fronts) ++ rest) ≡ length (f.names ++ fronts) + length rest = length-append (f.names ++ fronts) rest in
            let b : length (f.names ++ fronts) ≡ First + length fronts = length-append f.names fronts in
            let d : length fronts ≡ 2 * length ss = slot_names_length (length ss) in
            let e : length rest ≡ After - Fetched = numbered_length (codes "$c.there.") (After - Fetched) in
            omega (arith, up, a, b, d, e);
        grows = let up : Fetched ≤ After = fetched_after in omega (arith, up);
        blocks = all_blocks f.blocks refl;
        fronts = fronts_made;
        once = once;
      }
