-- Where begin gets a name, nothing gets outside (rule K5), and suspends have their switches (rule K3).
use Rattle.std.proofs.Common.{◌≡◌, ◌⊎◌, inl, inr, ℕ, ◌+◌, ◌-◌, Bool, true, false, List, [], ◌∷◌, ◌++◌, length, refl, sym, ap, ◌∙◌, subst}
use Rattle.std.specs.List.{list_any}
use Rattle.std.specs.Prelude.{Some, None, Option, count_by, flat_map, map, nat_le, not, option_and_then, option_map, slice_get, unwrap_or, ◌==◌, ◌||◌, ◌&&◌, if◌then◌else◌}
use Rattle.rule_laws.specs.ir_base.declared.outcome.Place.{Place}
use Rattle.rule_laws.specs.rule_shape.Switches.{breaks_switch, end_label, is_last, is_switch_on, is_switched, is_switched_in, wrong_switch}
use Rattle.rule_laws.specs.rule_shape.Uses.{block_operands, phi_operands, uses_of}
use Rattle.rule_laws.proofs.ir_laws.facts.Lists.{any_same, first_same}
use Rattle.rule_laws.proofs.ir_laws.facts.Members.{each_behind}
use Rattle.run_states.proofs.renamed.Modules.{length_same}
use Rattle.rule_laws.proofs.rules.renamed.Outside.{each_left, each_right, none_breaks}
use Rattle.pass_early_proof.proofs.early.renaming.Simulation.{other_call}
use Rattle.rule_laws.proofs.rules.renamed.Switches.{none_part}
use Rattle.pass_early.specs.BeginName.{begin_named, named_block, named_instr}
use Rattle.pass_early_proof.proofs.early.source_rules.NamedUses.{part_operands_same}
use Rattle.pass_early_proof.proofs.early.source_rules.Naming.{block_there, call_kept, call_same, nexts_same, points_same}
use Rattle.rule_laws.specs.ir_parts.Contents.{ending_operands, instr_operands}
use Rattle.rule_laws.specs.ir_parts.Parts.{Part, Head, OfPhi, OfInstr, Ending, block_parts, block_place, blocks_parts, first_part, instr_parts, instr_place, parts_of, phi_parts}
use Rattle.ir_model.specs.Names.{is_local}
use Rattle.ir_model.specs.declared.instr.Instr.{Instr}
use Rattle.ir_model.specs.declared.instr.Phi.{Phi}
use Rattle.ir_model.specs.declared.instr.Terminator.{Terminator}
use Rattle.ir_model.specs.declared.module.Block.{Block}
use Rattle.ir_model.specs.declared.module.Function.{Function}
use Rattle.ir_model.specs.declared.operand.Intrinsic.{Intrinsic}
use Rattle.rule_laws.specs.ir_paths.Paths.{IsPath, has_point}
use Rattle.rule_laws.specs.ir_paths.Windows.{call_result, end_block, is_call_of}
use Rattle.rule_laws.specs.ir_paths.declared.point.Point.{Point}
use Rattle.rule_laws.specs.flow_points.Reached.{IsReached}
use Rattle.rule_laws.specs.run_laws.changed.Changed.{Each}
use Rattle.rule_laws.specs.rule_windows.Outside.{BreaksOutside, IsFirstOutside, StandsOutside, ends_with_it, needs_begin}
use Rattle.rule_laws.specs.rule_windows.Points.{begins, ends, entry, phi_count, phis_in, point_in, point_of}
use Rattle.rule_laws.specs.rule_windows.Sets.{IsAfterEnd, IsWithoutBegin, RunsOut}
use Rattle.rule_laws.proofs.rules.path_rules.Holding.{first_none, part_none}

-- ---- parts

-- what holds of the parts of a function, of those of the other
record GoesOver (P Q : Place × Part → Type 0) (n : ℕ) : Type 0 where
  head : (p : Place) (b : Block) → P (p, Head b) → Q (p, Head (named_block n b))
  phi : (p : Place) (x : Phi) → P (p, OfPhi x) → Q (p, OfPhi x)
  instr : (p : Place) (i : Instr) → P (p, OfInstr i) → Q (p, OfInstr (named_instr n i))
  ending : (p : Place) (t : Terminator) → P (p, Ending t) → Q (p, Ending t)

module _ (P Q : Place × Part → Type 0) (n : ℕ) (over : GoesOver P Q n) (func : ℕ) where
  over_phis : (block at : ℕ) (ps : List Phi) → Each P (phi_parts func block at ps) → Each Q (phi_parts func block at ps)
  over_phis block at [] h = tt
  over_phis block at (p ∷ ps) h = (over.phi (instr_place func block at) p h.0, over_phis block (at + 1) ps h.1)

  over_instrs : (block at : ℕ) (is : List Instr) → Each P (instr_parts func block at is) → Each Q (instr_parts func block at (map (named_instr n) is))
  over_instrs block at [] h = tt
  over_instrs block at (i ∷ is) h = (over.instr (instr_place func block at) i h.0, over_instrs block (at + 1) is h.1)

  over_block : (block : ℕ) (b : Block) → Each P (block_parts func block b) → Each Q (block_parts func block (named_block n b))
  unfolding block_parts
  over_block block b h =
      let phis : List (Place × Part) = phi_parts func block 0 b.phis in
      let instrs : List (Place × Part) = instr_parts func block (length b.phis) b.instrs in
      let end : List (Place × Part) = (instr_place func block (length b.phis + length b.instrs), Ending b.term) ∷ [] in
      let rest : Each P (instrs ++ end) = each_right P phis (instrs ++ end) h.1 in
      let last : Each P end = each_right P instrs end rest in (
        over.head (block_place func block) b h.0,
        each_behind Q phis (instr_parts func block (length b.phis) (map (named_instr n) b.instrs) ++ (instr_place func block (length b.phis + length (map (named_instr n) b.instrs)), Ending b.term) ∷ [])
            (over_phis block 0 b.phis (each_left P phis (instrs ++ end) h.1))
            (each_behind Q (instr_parts func block (length b.phis) (map (named_instr n) b.instrs)) ((instr_place func block (length b.phis + length (map (named_instr n) b.instrs)), Ending b.term) ∷ [])
            (over_instrs block (length b.phis) b.instrs (each_left P instrs end rest))
            (subst (λ (k : ℕ). Q (instr_place func block (length b.phis + k), Ending b.term)) (sym (length_same (named_instr n) b.instrs)) (over.ending (instr_place func block (length b.phis + length b.instrs)) b.term last.0), tt)),
      )

  over_blocks : (block : ℕ) (bs : List Block) → Each P (blocks_parts func block bs) → Each Q (blocks_parts func block (map (named_block n) bs))
  over_blocks block [] h = tt
  over_blocks block (b ∷ bs) h =
      each_behind Q (block_parts func block (named_block n b)) (blocks_parts func (block + 1) (map (named_block n) bs))
      (over_block block b (each_left P (block_parts func block b) (blocks_parts func (block + 1) bs) h))
      (over_blocks (block + 1) bs (each_right P (block_parts func block b) (blocks_parts func (block + 1) bs) h))

module _ (f : Function) where
  abbrev n : ℕ
  n = length f.names

  abbrev g : Function
  g = begin_named f

  -- ---- paths

  path_back : (avoided : List Point) (between : List Point) (p q : Point) → IsPath g avoided p between q → IsPath f avoided p between q
  path_back avoided [] p q h = ap (λ (ps : List Point). has_point ps q) (sym (nexts_same f p)) ∙ h
  path_back avoided (v ∷ between) p q h = (ap (λ (ps : List Point). has_point ps v) (sym (nexts_same f p)) ∙ h.0, h.1, path_back avoided between v q h.2)

  reached_back : (starts avoided : List Point) (p : Point) → IsReached g starts avoided p → IsReached f starts avoided p
  reached_back starts avoided p h = record { start = h.start; is_start = h.is_start; path = record { between = h.path.between; is_path = path_back avoided h.path.between h.start p h.path.is_path } }

  begins_same : begins g ≡ begins f
  begins_same = points_same f (is_call_of Intrinsic.CoroBegin) (is_call_of Intrinsic.CoroBegin) (call_same n Intrinsic.CoroBegin)

  ends_same : ends g ≡ ends f
  ends_same = points_same f (is_call_of Intrinsic.CoroEnd) (is_call_of Intrinsic.CoroEnd) (call_same n Intrinsic.CoroEnd)

  after_back : (p : Point) → IsAfterEnd g p → IsAfterEnd f p
  after_back p h = reached_back (ends f) [] p (subst (λ (ps : List Point). IsReached g ps [] p) ends_same h)

  out_back : (p : Point) → RunsOut g p → RunsOut f p
  out_back p h = reached_back (begins f) (ends f) p (subst (λ (ps : List Point). IsReached g (begins f) ps p) ends_same (subst (λ (ps : List Point). IsReached g ps (ends g) p) begins_same h))

  without_back : (p : Point) → IsWithoutBegin g p → IsWithoutBegin f p
  without_back p h = record { begins_later = ap (λ (ps : List Point). has_point ps entry) (sym begins_same) ∙ h.begins_later; path = on h.path }
    where
      on : (p ≡ entry) ⊎ IsReached g (entry ∷ []) (begins g) p → (p ≡ entry) ⊎ IsReached f (entry ∷ []) (begins f) p
      on (inl e) = inl e
      on (inr r) = inr (reached_back (entry ∷ []) (begins f) p (subst (λ (ps : List Point). IsReached g (entry ∷ []) ps p) begins_same r))

  count_same : (block : ℕ) → phi_count g block ≡ phi_count f block
  count_same block = ap phis_in (block_there f block) ∙ on (slice_get f.blocks block)
    where
      on : (o : Option Block) → phis_in (option_map (named_block n) o) ≡ phis_in o
      on None = refl
      on (Some b) = refl

  point_same : (a b : Option ℕ) → point_in g a b ≡ point_in f a b
  point_same (Some block) (Some at) = λ k. record { block = block; at = at - count_same block k }
  point_same (Some block) None = refl
  point_same None b = refl

  -- ---- K5

  ends_it_same : (i : Instr) → ends_with_it (named_instr n i) ≡ ends_with_it i
  ends_it_same i = λ k. call_same n Intrinsic.CoroBegin i k || (call_same n Intrinsic.CoroSave i k || (call_same n Intrinsic.CoroSuspend i k || (call_same n Intrinsic.CoroFree i k || call_same n Intrinsic.CoroEnd i k)))

  needs_same : (i : Instr) → needs_begin (named_instr n i) ≡ needs_begin i
  needs_same i = λ k. call_same n Intrinsic.CoroSave i k || (call_same n Intrinsic.CoroSuspend i k || (call_same n Intrinsic.CoroFree i k || (call_same n Intrinsic.CoroFrame i k || call_same n Intrinsic.CoroEnd i k)))

  stands_back : (p : Place) (i : Instr) → StandsOutside g p (OfInstr (named_instr n i)) → StandsOutside f p (OfInstr i)
  stands_back p i (inl h) = inl (sym (ends_it_same i) ∙ h.0, after_back (point_of f p) (subst (IsAfterEnd g) (point_same p.block p.instr) h.1))
  stands_back p i (inr h) = inr (sym (needs_same i) ∙ h.0, without_back (point_of f p) (subst (IsWithoutBegin g) (point_same p.block p.instr) h.1))

  ends_back : (p : Place) (t : Terminator) → StandsOutside g p (Ending t) → StandsOutside f p (Ending t)
  ends_back p t h = (h.0, out_back (point_of f p) (subst (RunsOut g) (point_same p.block p.instr) h.1))

  over_outside : GoesOver (λ x. BreaksOutside f x → ⊥) (λ x. BreaksOutside g x → ⊥) n
  over_outside = record {
    head = λ p b h k. absurd k.1;
    phi = λ p x h k. absurd k.1;
    instr = λ p i h k. h (k.0, stands_back p i k.1);
    ending = λ p t h k. h (k.0, ends_back p t k.1);
  }

  pub none_outside_now : (func : ℕ) → IsFirstOutside func f None → IsFirstOutside func g None
  none_outside_now func h =
      first_none (BreaksOutside g) (λ x. x.0) (parts_of func g)
      (λ k. absurd k.1, over_blocks (λ x. BreaksOutside f x → ⊥) (λ x. BreaksOutside g x → ⊥) n over_outside func 0 f.blocks (none_breaks (BreaksOutside f) (λ x. x.0) (parts_of func f) h).1)

  -- ---- K3

  instr_operands_same : (is : List Instr) → flat_map instr_operands (map (named_instr n) is) ≡ flat_map instr_operands is
  instr_operands_same [] = refl
  instr_operands_same (i ∷ is) = λ k. part_operands_same n i k ++ instr_operands_same is k

  operands_same : (bs : List Block) → flat_map block_operands (map (named_block n) bs) ≡ flat_map block_operands bs
  operands_same [] = refl
  operands_same (b ∷ bs) = λ k. (flat_map phi_operands b.phis ++ (instr_operands_same b.instrs k ++ ending_operands b.term)) ++ operands_same bs k

  uses_same : (v : ℕ) → uses_of g v ≡ uses_of f v
  uses_same v = ap (count_by (is_local v)) (operands_same f.blocks)

  end_block_same : end_block g ≡ end_block f
  end_block_same = λ k.
      unwrap_or (first_same (named_block n) (λ b. list_any (is_call_of Intrinsic.CoroEnd) b.instrs) (λ b. list_any (is_call_of Intrinsic.CoroEnd) b.instrs) (λ b. any_same (named_instr n) (is_call_of Intrinsic.CoroEnd) (is_call_of Intrinsic.CoroEnd) (call_same n Intrinsic.CoroEnd) b.instrs) f.blocks k)
      (length_same (named_block n) f.blocks k)

  end_label_same : end_label g ≡ end_label f
  end_label_same = ap (λ (m : ℕ). option_map (λ (b : Block). b.label) (slice_get g.blocks m)) end_block_same ∙ ap (option_map (λ (b : Block). b.label)) (block_there f (end_block f)) ∙ on (slice_get f.blocks (end_block f))
    where
      on : (o : Option Block) → option_map (λ (b : Block). b.label) (option_map (named_block n) o) ≡ option_map (λ (b : Block). b.label) o
      on None = refl
      on (Some b) = refl

  last_same : (b : Block) (o : Option ℕ) → is_last (named_block n b) o ≡ is_last b o
  last_same b None = refl
  last_same b (Some at) = λ k. at + 1 == length b.phis + length_same (named_instr n) b.instrs k

  in_block_same : (v : ℕ) (p : Place) (o : Option Block) → is_switched_in g v p (option_map (named_block n) o) ≡ is_switched_in f v p o
  in_block_same v p None = refl
  in_block_same v p (Some b) = λ k. last_same b p.instr k && (is_switch_on v (end_label_same k) b.term && nat_le (uses_same v k) 1)

  block_of_same : (o : Option ℕ) → option_and_then (slice_get g.blocks) o ≡ option_map (named_block n) (option_and_then (slice_get f.blocks) o)
  block_of_same None = refl
  block_of_same (Some k) = block_there f k

  switched_same : (p : Place) (o : Option ℕ) → is_switched g p o ≡ is_switched f p o
  switched_same p None = refl
  switched_same p (Some v) = ap (is_switched_in g v p) (block_of_same p.block) ∙ in_block_same v p (option_and_then (slice_get f.blocks) p.block)

  breaks_same : (p : Place) (i : Instr) → breaks_switch g p (OfInstr (named_instr n i)) ≡ breaks_switch f p (OfInstr i)
  breaks_same p i = on (is_call_of Intrinsic.CoroSuspend i) refl
    where
      on : (b : Bool) → is_call_of Intrinsic.CoroSuspend i ≡ b → (is_call_of Intrinsic.CoroSuspend (named_instr n i) && not (is_switched g p (call_result (named_instr n i)))) ≡ (is_call_of Intrinsic.CoroSuspend i && not (is_switched f p (call_result i)))
      on true e = λ k. call_same n Intrinsic.CoroSuspend i k && not ((ap (is_switched g p) (call_kept n i (other_call Intrinsic.CoroSuspend Intrinsic.CoroBegin i e refl)) ∙ switched_same p (call_result i)) k)
      on false e =
          ap (λ (b : Bool). b && not (is_switched g p (call_result (named_instr n i)))) (call_same n Intrinsic.CoroSuspend i ∙ e)
          ∙ sym (ap (λ (b : Bool). b && not (is_switched f p (call_result i))) e)

  over_switches : GoesOver (λ x. breaks_switch f x.0 x.1 ≡ false) (λ x. breaks_switch g x.0 x.1 ≡ false) n
  over_switches = record {
    head = λ p b h. refl;
    phi = λ p x h. refl;
    instr = λ p i h. breaks_same p i ∙ h;
    ending = λ p t h. refl;
  }

  pub no_wrong_switch_now : (func : ℕ) → f.coroutine ≡ true → wrong_switch func f ≡ None → wrong_switch func g ≡ None
  no_wrong_switch_now func coroutine h =
      let none : first_part (breaks_switch f) (parts_of func f) ≡ None = subst (λ (c : Bool). (if c then first_part (breaks_switch f) (parts_of func f) else None) ≡ None) coroutine h in
      subst (λ (c : Bool). (if c then first_part (breaks_switch g) (parts_of func g) else None) ≡ None) (sym coroutine)
      (part_none (breaks_switch g) (parts_of func g)
      (refl, over_blocks (λ x. breaks_switch f x.0 x.1 ≡ false) (λ x. breaks_switch g x.0 x.1 ≡ false) n over_switches func 0 f.blocks (none_part (breaks_switch f) (parts_of func f) none).1))
