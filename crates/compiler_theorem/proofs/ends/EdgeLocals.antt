-- The slot of a kept address is a name of a coroutine that is kept in no cell and lies in no frame.
use Rattle.std.proofs.Common.{◌≡◌, ℕ, Bool, false, List, Option, Some, None, refl, sym, ap, ◌∙◌, subst}
use Rattle.std.proofs.lemmas.Option.{slice_get-map}
use Rattle.std.specs.Prelude.{if◌then◌else◌, not, option_map, slice_get, unwrap_or}
use Rattle.compiler.specs.flow_solver.Paths.{IsListed}
use Rattle.compiler.specs.frame_classes.declared.class.SlotClass.{SlotClass}
use Rattle.compiler.proofs.ir_laws.facts.Truth.{itself}
use Rattle.compiler.proofs.ir_laws.paths.renamed.Uses.{stands_in}
use Rattle.compiler.specs.ir_model.Ty.{Ty, array, int, named, ptr, structure, token}
use Rattle.compiler.specs.ir_model.declared.instr.Instr.{Instr}
use Rattle.compiler.specs.ir_model.declared.module.Block.{Block}
use Rattle.compiler.specs.ir_model.declared.operand.Operand.{Operand}
use Rattle.compiler.specs.ir_parts.Contents.{result_of}
use Rattle.compiler.specs.pass_addresses.Placing.{is_none, slot_fetches}
use Rattle.compiler.specs.pass_cells.Kept.{entry, value_types}
use Rattle.compiler.specs.pass_cells.Links.{bases_of, slots_of}
use Rattle.compiler.specs.pass_cells.Plan.{kept_value, type_at}
use Rattle.compiler.specs.pass_cells.declared.plan.KeptValue.{KeptValue}
use Rattle.compiler.specs.pass_fetch.Fetching.{fetch_at, fetch_of}
use Rattle.compiler.specs.pass_fetch.declared.fetch.Fetch.{Fetch}
use Rattle.compiler.specs.pass_frames.Framed.{begin_of}
use Rattle.compiler.specs.pass_frames.Tables.{class_flags}
use Rattle.pass_frames_meaning.proofs.others.Names.{base_made, result_low, root_alloca, slot_based}
use Rattle.pass_frames_meaning.proofs.pass_frames_proof.agains.Lines.{root_unfetched}
use Rattle.pass_frames_meaning.proofs.pass_frames_proof.agains.Values.{kept_root}
use Rattle.pass_frames_meaning.proofs.pass_frames_proof.code.Names.{Count, F, First, Kept, keeping, local}
use Rattle.pass_frames_meaning.specs.pass_frames_proof.Framings.{IsFraming}
use Rattle.pass_frames_meaning.specs.pass_frames_proof.FromEdges.{IsLocalSlot}
use Rattle.pass_frames_meaning.specs.pass_frames_proof.Passes.{no_block}
use Rattle.pass_frames_meaning.specs.pass_frames_proof.Places.{Framing, edged, offsets, plan}
use Rattle.pass_frames_meaning.specs.pass_frames_proof.Related.{IsKeptValue, root_of}
use Rattle.compiler.proofs.pass_proofs.cells.rules.Keepable.{IsKeepable, blocks_tell, once as names_once, params_tell}
use Rattle.compiler.specs.ir_paths.Slots.{allocas_of}
use Rattle.compiler.proofs.pass_proofs.cells.rules.Links.{slot_flagged}
use Rattle.compiler.proofs.pass_proofs.cells.rules.Plans.{kept_of}
use Rattle.compiler.proofs.pass_proofs.cells.rules.ValueTypes.{types_seen}
use Rattle.compiler.proofs.pass_proofs.edges.paths.Slots.{same_allocas}
use Rattle.compiler.proofs.pass_proofs.frames.shape.Fits.{flags_are_allocas}
use Rattle.compiler.specs.pass_proofs.addresses.rules.Addresses.{lies_in_frame}
use Rattle.compiler.proofs.rule_laws.rules.counted.DefinedKinds.{kind_of_instr}
use Rattle.compiler.proofs.rule_laws.rules.counted.Slots.{alloca_sized}
use Rattle.compiler.specs.rule_values.Kinds.{instr_kind, kind_of, value_kind}
use Rattle.compiler.specs.rule_values.declared.kinds.Kind.{Kind}

kept_ty : (cell field : ℕ) (t : Ty) (o slot : Option ℕ) → (kept_value cell field t o slot).ty ≡ t
kept_ty cell field t None slot = refl
kept_ty cell field t (Some d) slot = refl

pointer_type : (t : Ty) → kind_of t ≡ Kind.Ptr → t ≡ ptr
pointer_type ptr e = refl
pointer_type (int w) e = absurd (cc)
pointer_type token e = absurd (cc)
pointer_type (array n t) e = absurd (cc)
pointer_type (structure ts) e = absurd (cc)
pointer_type (named n) e = absurd (cc)

module _ (x : Framing) (is : IsFraming x) where
  -- a kept value's type is of its name's kind
  kept_kind : (r : ℕ) (k : KeptValue) → IsKeptValue x r k → value_kind (edged x) r ≡ Some (kind_of k.ty)
  kept_kind r k kept =
      let slots : List (Option ℕ) = slots_of (local x is) (bases_of (F x is)) in
      let types : List Ty = value_types (F x is) (Kept x is) in
      let y = kept_of (First x is) (Count x is) types (plan x).cells slots (Kept x is).values kept.number k kept.there
      in
      let at : slice_get (Kept x is).values kept.number ≡ Some r = (keeping x is).there r kept.number kept.told in
      let seen : value_kind (F x is) r ≡ Some (kind_of (type_at types kept.number)) =
      types_seen (F x is) (First x is) (IsKeepable x.code (F x is)) (Kept x is) (keeping x is)
      (params_tell x.code is.position (F x is) is.frameable.rules x.contents.crossing (local x is) is.frameable.cells)
      (blocks_tell x.code is.position (F x is) is.frameable.rules x.contents.crossing (local x is) is.frameable.cells)
      r ((keeping x is).holds r kept.number at).defined kept.number kept.told in
      let same : k.ty ≡ type_at types kept.number = ap (λ (z : KeptValue). z.ty) y.2
      ∙ kept_ty _ _ (type_at types kept.number) (entry (plan x).cells y.0) (entry slots y.0) in
      seen ∙ ap (λ (t : Ty). Some (kind_of t)) (sym same)

  -- an address in a slot is a getelementptr's
  rooted_kind : (v slot : ℕ) → root_of x v ≡ Some slot → value_kind (edged x) v ≡ Some Kind.Ptr
  rooted_kind v slot root =
      let base = slot_based (class_flags x.function x.contents.classes SlotClass.Local) (bases_of (edged x)) v slot root
      in
      let g = base_made (edged x) v base.0 base.1 in
      let gep = g.has.gep in
      kind_of_instr (edged x) v
      (names_once x.code is.position (edged x) is.frameable.rules x.contents.crossing (local x is) is.frameable.cells v)
      g.block g.one g.has.at g.has.instr g.found g.has.there (ap result_of gep.is)
      ∙ ap (λ (i : Instr). instr_kind i v) gep.is
      ∙ ap (λ (b : Bool). if b then Some Kind.Ptr else None) (itself v)

  unfetched_outside : (v : ℕ) → fetch_of (slot_fetches (begin_of x.function) (offsets x)) (Operand.Local v) ≡ None
      → lies_in_frame (offsets x) v ≡ false
  unfetched_outside v e = on (slice_get (offsets x) v) refl
    where
      on : (o : Option (Option ℕ)) → slice_get (offsets x) v ≡ o → lies_in_frame (offsets x) v ≡ false
      on None d = ap (λ (o : Option (Option ℕ)). not (is_none (unwrap_or o None))) d
      on (Some None) d = ap (λ (o : Option (Option ℕ)). not (is_none (unwrap_or o None))) d
      on (Some (Some n)) d =
          let told : slice_get (slot_fetches (begin_of x.function) (offsets x)) v
          ≡ Some (Some (Fetch.Address (begin_of x.function) n)) =
          slice_get-map (option_map (Fetch.Address (begin_of x.function))) (offsets x) v
          ∙ ap (option_map (option_map (Fetch.Address (begin_of x.function)))) d in
          let no : Some (Fetch.Address (begin_of x.function) n) ≡ None =
          ap fetch_at (sym told) ∙ e in
          absurd (cc)

  unkept : (v slot : ℕ) → root_of x v ≡ Some slot → entry (plan x).places slot ≡ None
  unkept v slot root = on (entry (plan x).places slot) refl
    where
      listed : IsListed slot (allocas_of (edged x))
      listed = subst (IsListed slot) (sym (same_allocas x.function))
          (flags_are_allocas x.function x.contents.classes SlotClass.Local slot
          (slot_flagged (class_flags x.function x.contents.classes SlotClass.Local) (bases_of (edged x)) v slot root))

      on : (o : Option ℕ) → entry (plan x).places slot ≡ o → o ≡ None
      on None e = refl
      on (Some at) e = absurd (alloca_sized x.code (edged x) slot
          (names_once x.code is.position (edged x) is.frameable.rules x.contents.crossing (local x is)
          is.frameable.cells slot) listed ((keeping x is).holds slot at ((keeping x is).there slot at e)).no_slot)

  pub local_slot : (v slot : ℕ) (k : KeptValue) → IsKeptValue x v k → k.slot ≡ Some slot → IsLocalSlot x k slot
  local_slot v slot k kept e =
      let root = kept_root x is v k kept slot e in
      let a = root_alloca x is v slot root in
      let z = stands_in (edged x) a.point (Instr.Alloca slot a.ty a.align) a.stands in
      let kind : Some (kind_of k.ty) ≡ Some Kind.Ptr = sym (kept_kind v k kept) ∙ rooted_kind v slot root in
      let pointer : kind_of k.ty ≡ Kind.Ptr = cc in
      record {
        pointer = pointer_type k.ty pointer;
        low = result_low x is a.point.block a.point.at slot (Instr.Alloca slot a.ty a.align)
            (ap (λ (o : Option Block). slice_get (unwrap_or o no_block).instrs a.point.at) z.got ∙ z.stands) refl;
        unkept = unkept v slot root;
        outside = unfetched_outside slot (root_unfetched x is v slot root);
      }
