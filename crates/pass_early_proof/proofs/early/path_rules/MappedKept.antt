-- Values made in windows and used behind them (rule K7), where each block becomes one with the same edges: where begin gets a name, and where uses are renamed.
use Rattle.std.proofs.Common.{◌≡◌, inl, inr, ℕ, zero, suc, ◌+◌, Bool, true, false, List, [], ◌∷◌, ◌++◌, length, refl, sym, ap, ◌∙◌, subst}
use Rattle.std.proofs.lemmas.Option.{slice_get-map}
use Rattle.std.specs.Prelude.{Some, None, Option, map, option_map, option_to_list, slice_get, if◌then◌else◌}
use Rattle.pass_early_proof.proofs.early.begin_naming.NamedParts.{end_same as end_named}
use Rattle.rule_laws.specs.flow_blocks.Edges.{block_edges, edges_of_blocks}
use Rattle.rule_laws.specs.ir_base.declared.outcome.Place.{Place}
use Rattle.rule_laws.specs.rule_uses.Uses.{Use, block_uses, block_values, blocks_uses, incoming_use, incoming_uses, instr_uses, local_of, locals_in, made_by_instrs, made_by_phis, phi_uses, phi_values, use_of, uses_at, values_at, values_in}
use Rattle.rule_laws.proofs.ir_laws.facts.Members.{each_behind, each_all as each_always, each_turns as each_more}
use Rattle.rule_laws.proofs.ir_laws.facts.Truth.{not_equal}
use Rattle.rule_laws.proofs.rules.renamed.Outside.{each_left, each_right}
use Rattle.rule_laws.proofs.ir_laws.paths.renamed.Outside.{where_pass}
use Rattle.pass_early_proof.proofs.early.renaming.Parts.{call_of_same, end_same as end_renamed, position_same as position_renamed, points_where_same, resume_same as resume_renamed, destroy_same as destroy_renamed, targets_same as targets_renamed}
use Rattle.rule_laws.proofs.rules.renamed.Uses.{result_spelt}
use Rattle.pass_early_proof.specs.early.renaming.Passes.{renamed_block, renamed_coroutine}
use Rattle.pass_early_proof.specs.early.renaming.Regular.{IsPlain, IsRegular}
use Rattle.pass_early.specs.BeginName.{begin_named, named_block, named_instr}
use Rattle.pass_early.specs.Renaming.{is_renamed, renamed, renamed_incoming, renamed_instr, renamed_phi, renamed_term}
use Rattle.pass_early.specs.declared.renaming.Renaming.{Renaming}
use Rattle.rule_laws.proofs.rules.path_rules.KeptValues.{ComeBack, IsSameBehind, NoneKept, NotBehind, made_back, no_call_inside, none_used, one_home}
use Rattle.pass_early_proof.proofs.early.path_rules.NamedWindows.{alike_named}
use Rattle.pass_early_proof.proofs.early.path_rules.Outside.{instr_was}
use Rattle.pass_early_proof.proofs.early.path_rules.RenamedOperands.{operands_renamed, result_stays}
use Rattle.rule_laws.proofs.rules.path_rules.Windows.{IsAlike, NoWrongWindow}
use Rattle.pass_early_proof.proofs.early.path_rules.Windows.{alike_renamed}
use Rattle.rule_laws.proofs.ir_laws.paths.path_rules.Windows.{is_save}
use Rattle.rule_laws.proofs.ir_laws.facts.Options.{passing_is}
use Rattle.pass_early_proof.proofs.early.source_rules.Naming.{Stood, call_same, destroy_same as destroy_named, points_same, position_same as position_named, resume_same as resume_named, stood}
use Rattle.pass_early_proof.proofs.early.source_rules.NamedUses.{Unnamed, part_operands_same, unnamed_by}
use Rattle.rule_laws.specs.flow_solver.Paths.{IsListed}
use Rattle.rule_laws.specs.ir_parts.Contents.{ending_operands, instr_operands, result_of}
use Rattle.rule_laws.specs.ir_parts.Parts.{instr_place}
use Rattle.ir_model.specs.Calls.{first_result}
use Rattle.ir_model.specs.Names.{position_of}
use Rattle.ir_model.specs.declared.instr.Incoming.{Incoming}
use Rattle.ir_model.specs.declared.instr.Instr.{Instr}
use Rattle.ir_model.specs.declared.instr.Phi.{Phi}
use Rattle.ir_model.specs.declared.instr.Terminator.{Terminator}
use Rattle.ir_model.specs.declared.module.Block.{Block}
use Rattle.ir_model.specs.declared.module.Function.{Function}
use Rattle.ir_model.specs.declared.operand.Callee.{Callee}
use Rattle.ir_model.specs.declared.operand.Intrinsic.{Intrinsic}
use Rattle.ir_model.specs.declared.operand.Operand.{Operand}
use Rattle.rule_laws.specs.ir_paths.Paths.{has_point, targets}
use Rattle.rule_laws.specs.ir_paths.Windows.{destroy_label, end_block, instr_at, is_call_of, points_where, resume_label, suspend_of}
use Rattle.rule_laws.specs.ir_paths.declared.point.Point.{Point}
use Rattle.rule_laws.specs.run_step.Step.{phis_of}
use Rattle.rule_laws.specs.run_laws.changed.Changed.{Each}
use Rattle.rule_laws.specs.rule_windows.Windows.{ends_window, passes}
use Rattle.rule_laws.specs.rule_window_values.Kept.{ByInstr, ByPhi, IsMadeIn, IsUsedBehind, TakesFrom, own_blocks, phi_results, phis_at, phis_in}

-- ---- lists

-- what an element of a mapped list comes from
listed_was : {A B : Type 0} (h : A → B) (xs : List A) (y : B) → IsListed y (map h xs) → (x : A) × (IsListed x xs × (y ≡ h x))
listed_was h [] y l = absurd l
listed_was h (x ∷ xs) y (inl e) = (x, (inl refl, e))
listed_was h (x ∷ xs) y (inr l) = let z = listed_was h xs y l in (z.0, (inr z.1.0, z.1.1))

map_itself : {A : Type 0} (xs : List A) → map (λ (x : A). x) xs ≡ xs
map_itself [] = refl
map_itself (x ∷ xs) = ap (λ ys. x ∷ ys) (map_itself xs)

-- ---- blocks that become others

-- What becomes of the parts of a block: the value is made where it was made, and used only where it was used.
pub record IsMapped (f g : Function) (v : ℕ) (block : Block → Block) (phi : Phi → Phi) (incoming : Incoming → Incoming) (instr : Instr → Instr) : Type 0 where
  pub blocks : g.blocks ≡ map block f.blocks
  pub phis : (b : Block) → (block b).phis ≡ map phi b.phis
  pub instrs : (b : Block) → (block b).instrs ≡ map instr b.instrs
  pub targets : (b : Block) → targets (block b).term ≡ targets b.term
  pub endings : (b : Block) → IsListed v (locals_in (ending_operands (block b).term)) → IsListed v (locals_in (ending_operands b.term))
  pub results : (p : Phi) → (phi p).result ≡ p.result
  pub incomings : (p : Phi) → (phi p).incoming ≡ map incoming p.incoming
  pub from : (i : Incoming) → (incoming i).from ≡ i.from
  pub values : (i : Incoming) → local_of (incoming i).value ≡ Some v → local_of i.value ≡ Some v
  pub uses : (i : Instr) → IsListed v (locals_in (instr_operands (instr i))) → IsListed v (locals_in (instr_operands i))
  pub makes : Each (λ b. Each (λ i. IsListed v (option_to_list (result_of i)) → IsListed v (option_to_list (result_of (instr i)))) b.instrs) f.blocks
  pub position : (label : ℕ) → position_of g label ≡ position_of f label

module _ (f g : Function) (v : ℕ) (block : Block → Block) (phi : Phi → Phi) (incoming : Incoming → Incoming) (instr : Instr → Instr) (mapped : IsMapped f g v block phi incoming instr) where
  abbrev Within : List ℕ → List ℕ → Type 0
  Within xs ys = IsListed v xs → IsListed v ys

  abbrev Makes : Instr → Type 0
  Makes i = Within (option_to_list (result_of i)) (option_to_list (result_of (instr i)))

  -- ---- what is made

  phis_make : (xs : List ℕ) (ps : List Phi) → made_by_phis xs (map phi ps) ≡ made_by_phis xs ps
  phis_make xs [] = refl
  phis_make xs (p ∷ ps) = ap (λ (n : ℕ). made_by_phis (n ∷ xs) (map phi ps)) (mapped.results p) ∙ phis_make (p.result ∷ xs) ps

  phi_values_same : (b : Block) → phi_values (block b) ≡ phi_values b
  phi_values_same b = ap (made_by_phis []) (mapped.phis b) ∙ phis_make [] b.phis

  more_within : (o q : Option ℕ) (xs ys : List ℕ) → Within (option_to_list o) (option_to_list q) → Within xs ys → Within (option_to_list o ++ xs) (option_to_list q ++ ys)
  more_within None None xs ys h w l = w l
  more_within None (Some m) xs ys h w l = inr (w l)
  more_within (Some n) q xs ys h w (inl e) = own q (h (inl e))
    where
      own : (q : Option ℕ) → IsListed v (option_to_list q) → IsListed v (option_to_list q ++ ys)
      own None l = absurd l
      own (Some m) (inl d) = inl d
      own (Some m) (inr l) = absurd l
  more_within (Some n) None xs ys h w (inr l) = w l
  more_within (Some n) (Some m) xs ys h w (inr l) = inr (w l)

  made_within : (is : List Instr) (xs ys : List ℕ) → Each Makes is → Within xs ys → Within (made_by_instrs xs is) (made_by_instrs ys (map instr is))
  made_within [] xs ys makes w = w
  made_within (i ∷ is) xs ys makes w = made_within is (option_to_list (result_of i) ++ xs) (option_to_list (result_of (instr i)) ++ ys) makes.1 (more_within (result_of i) (result_of (instr i)) xs ys makes.0 w)

  block_within : (b : Block) → Each Makes b.instrs → Within (block_values b) (block_values (block b))
  block_within b makes =
      subst (λ (js : List Instr). Within (block_values b) (made_by_instrs (phi_values (block b)) js)) (sym (mapped.instrs b))
      (made_within b.instrs (phi_values b) (phi_values (block b)) makes (λ l. subst (IsListed v) (sym (phi_values_same b)) l))

  block_there : (k : ℕ) → slice_get g.blocks k ≡ option_map block (slice_get f.blocks k)
  block_there k = ap (λ (bs : List Block). slice_get bs k) mapped.blocks ∙ slice_get-map block f.blocks k

  each_at : (bs : List Block) (k : ℕ) (b : Block) → Each (λ c. Each Makes c.instrs) bs → slice_get bs k ≡ Some b → Each Makes b.instrs
  each_at [] k b h e = absurd (cc)
  each_at (c ∷ bs) zero b h e = let same : c ≡ b = cc in subst (λ (x : Block). Each Makes x.instrs) same h.0
  each_at (c ∷ bs) (suc k) b h e = each_at bs k b h.1 e

  values_within : (k : ℕ) → Within (values_at f k) (values_at g k)
  values_within k = on (slice_get f.blocks k) refl
    where
      on : (o : Option Block) → slice_get f.blocks k ≡ o → Within (values_in o) (values_at g k)
      on None e l = absurd l
      on (Some b) e l = subst (λ (o : Option Block). IsListed v (values_in o)) (sym (block_there k ∙ ap (option_map block) e)) (block_within b (each_at f.blocks k b mapped.makes e) l)

  -- ---- edges

  labels_same : (from : ℕ) (ts : List ℕ) → map {B = ℕ × ℕ} (λ to. (from, to)) (map (position_of g) ts) ≡ map (λ to. (from, to)) (map (position_of f) ts)
  labels_same from [] = refl
  labels_same from (t ∷ ts) = λ k. (from, mapped.position t k) ∷ labels_same from ts k

  edges_same : (at : ℕ) (bs : List Block) → edges_of_blocks g at (map block bs) ≡ edges_of_blocks f at bs
  edges_same at [] = refl
  edges_same at (b ∷ bs) = λ k. (ap (λ (ts : List ℕ). map {B = ℕ × ℕ} (λ to. (at, to)) (map (position_of g) ts)) (mapped.targets b) ∙ labels_same at (targets b.term)) k ++ edges_same (at + 1) bs k

  block_edges_same : block_edges g ≡ block_edges f
  unfolding block_edges
  block_edges_same = ap (edges_of_blocks g 0) mapped.blocks ∙ edges_same 0 f.blocks

  -- ---- phis

  phis_same : (k : ℕ) → phis_at g k ≡ map phi (phis_at f k)
  phis_same k = ap phis_in (block_there k) ∙ on (slice_get f.blocks k)
    where
      on : (o : Option Block) → phis_in (option_map block o) ≡ map phi (phis_in o)
      on None = refl
      on (Some b) = mapped.phis b

  results_same : (ps : List Phi) → map (λ (p : Phi). p.result) (map phi ps) ≡ map (λ (p : Phi). p.result) ps
  results_same [] = refl
  results_same (p ∷ ps) = λ k. mapped.results p k ∷ results_same ps k

  pub phi_results_same : (k : ℕ) → phi_results g k ≡ phi_results f k
  phi_results_same k = ap (map (λ (p : Phi). p.result)) (phis_same k) ∙ results_same (phis_at f k)

  takes_home : (from block : ℕ) → TakesFrom g v from block → TakesFrom f v from block
  takes_home from k h =
      let p = listed_was phi (phis_at f k) h.phi (subst (IsListed h.phi) (phis_same k) h.stands) in
      let i = listed_was incoming (p.0).incoming h.incoming (subst (IsListed h.incoming) (ap (λ (x : Phi). x.incoming) p.1.1 ∙ mapped.incomings p.0) h.comes) in
      record {
        phi = p.0;
        incoming = i.0;
        stands = p.1.0;
        comes = i.1.0;
        is_from = sym (mapped.position (i.0).from) ∙ ap (position_of g) (sym (mapped.from i.0)) ∙ ap (λ (x : Incoming). position_of g x.from) (sym i.1.1) ∙ h.is_from;
        takes = mapped.values i.0 (ap (λ (x : Incoming). local_of x.value) (sym i.1.1) ∙ h.takes);
      }

  -- ---- uses behind a suspend

  module _ (func : ℕ) (s : Point) (own : own_blocks g s ≡ own_blocks f s) (end : end_block g ≡ end_block f) where
    same : IsSameBehind f g s s v
    same = record { own = own; edges = block_edges_same; values = values_within; end = end; takes = takes_home s.block }

    abbrev Fine : Use → Type 0
    Fine u = NotBehind f s v u

    abbrev Late : Use → Type 0
    Late u = NotBehind g s v u

    pick : (p : Place) (a : ℕ) (xs vs : List ℕ) → Each Fine (map (use_of p a xs) vs) → IsListed v vs → Fine (use_of p a xs v)
    pick p a xs [] fine l = absurd l
    pick p a xs (w ∷ vs) fine (inl e) = subst (λ (n : ℕ). Fine (use_of p a xs n)) (sym e) fine.0
    pick p a xs (w ∷ vs) fine (inr l) = pick p a xs vs fine.1 l

    locals_home : (p q : Place) (a b : ℕ) (xs ys : List ℕ) → a ≡ b → Within xs ys → (vs ws : List ℕ) → Within ws vs → Each Fine (map (use_of p a xs) vs) → Each Late (map (use_of q b ys) ws)
    locals_home p q a b xs ys at h vs [] within fine = tt
    locals_home p q a b xs ys at h vs (w ∷ ws) within fine = (
      (λ hit. one_home f g s s v same p q a b w xs ys at h (subst (λ (n : ℕ). Fine (use_of p a xs n)) (sym hit.value) (pick p a xs vs fine (within (inl (sym hit.value))))) hit),
      locals_home p q a b xs ys at h vs ws (λ l. within (inr l)) fine,
    )

    incoming_home : (p q : Place) (is : List Incoming) → Each Fine (incoming_uses f p is) → Each Late (incoming_uses g q (map incoming is))
    incoming_home p q [] fine = tt
    incoming_home p q (i ∷ is) fine =
        let a : ℕ = position_of f i.from in
        let b : ℕ = position_of g (incoming i).from in
        let at : a ≡ b = sym (ap (position_of g) (mapped.from i) ∙ mapped.position i.from) in
        each_behind Late (map (incoming_use g q (incoming i)) (option_to_list (local_of (incoming i).value))) (incoming_uses g q (map incoming is))
        (locals_home p q a b (values_at f a) (values_at g b) at (λ l. subst (λ (n : ℕ). IsListed v (values_at g n)) at (values_within a l))
        (option_to_list (local_of i.value)) (option_to_list (local_of (incoming i).value)) (taken (local_of (incoming i).value) (mapped.values i))
        (each_left Fine (map (incoming_use f p i) (option_to_list (local_of i.value))) (incoming_uses f p is) fine))
        (incoming_home p q is (each_right Fine (map (incoming_use f p i) (option_to_list (local_of i.value))) (incoming_uses f p is) fine))
      where
        taken : (o : Option ℕ) → (o ≡ Some v → local_of i.value ≡ Some v) → Within (option_to_list o) (option_to_list (local_of i.value))
        taken None h l = absurd l
        taken (Some n) h (inl e) = subst (λ (x : Option ℕ). IsListed v (option_to_list x)) (sym (h (ap Some (sym e)))) (inl refl)
        taken (Some n) h (inr l) = absurd l

    phis_home : (k at : ℕ) (ps : List Phi) → Each Fine (phi_uses f func k at ps) → Each Late (phi_uses g func k at (map phi ps))
    phis_home k at [] fine = tt
    phis_home k at (p ∷ ps) fine =
        each_behind Late (incoming_uses g (instr_place func k at) (phi p).incoming) (phi_uses g func k (at + 1) (map phi ps))
        (subst (λ (is : List Incoming). Each Late (incoming_uses g (instr_place func k at) is)) (sym (mapped.incomings p))
        (incoming_home (instr_place func k at) (instr_place func k at) p.incoming (each_left Fine (incoming_uses f (instr_place func k at) p.incoming) (phi_uses f func k (at + 1) ps) fine)))
        (phis_home k (at + 1) ps (each_right Fine (incoming_uses f (instr_place func k at) p.incoming) (phi_uses f func k (at + 1) ps) fine))

    instrs_home : (k at to : ℕ) (xs ys : List ℕ) (is : List Instr) → Each Makes is → Within xs ys → Each Fine (instr_uses func k at xs is) → Each Late (instr_uses func k to ys (map instr is))
    instrs_home k at to xs ys [] makes h fine = tt
    instrs_home k at to xs ys (i ∷ is) makes h fine =
        each_behind Late (uses_at (instr_place func k to) k ys (instr_operands (instr i))) (instr_uses func k (to + 1) (option_to_list (result_of (instr i)) ++ ys) (map instr is))
        (locals_home (instr_place func k at) (instr_place func k to) k k xs ys refl h (locals_in (instr_operands i)) (locals_in (instr_operands (instr i))) (mapped.uses i)
        (each_left Fine (uses_at (instr_place func k at) k xs (instr_operands i)) (instr_uses func k (at + 1) (option_to_list (result_of i) ++ xs) is) fine))
        (instrs_home k (at + 1) (to + 1) (option_to_list (result_of i) ++ xs) (option_to_list (result_of (instr i)) ++ ys) is makes.1 (more_within (result_of i) (result_of (instr i)) xs ys makes.0 h)
        (each_right Fine (uses_at (instr_place func k at) k xs (instr_operands i)) (instr_uses func k (at + 1) (option_to_list (result_of i) ++ xs) is) fine))

    block_home : (k : ℕ) (b : Block) → Each Makes b.instrs → Each Fine (block_uses f func k b) → Each Late (block_uses g func k (block b))
    unfolding block_uses
    block_home k b makes fine =
        let c : Block = block b in
        let phis : List Use = phi_uses f func k 0 b.phis in
        let instrs : List Use = instr_uses func k (length b.phis) (phi_values b) b.instrs in
        let p : Place = instr_place func k (length b.phis + length b.instrs) in
        let q : Place = instr_place func k (length c.phis + length c.instrs) in
        let end : List Use = uses_at p k (block_values b) (ending_operands b.term) in
        let rest = each_right Fine phis (instrs ++ end) fine in
        each_behind Late (phi_uses g func k 0 c.phis) (instr_uses func k (length c.phis) (phi_values c) c.instrs ++ uses_at q k (block_values c) (ending_operands c.term))
        (subst (λ (ps : List Phi). Each Late (phi_uses g func k 0 ps)) (sym (mapped.phis b)) (phis_home k 0 b.phis (each_left Fine phis (instrs ++ end) fine)))
        (each_behind Late (instr_uses func k (length c.phis) (phi_values c) c.instrs) (uses_at q k (block_values c) (ending_operands c.term))
        (subst (λ (js : List Instr). Each Late (instr_uses func k (length c.phis) (phi_values c) js)) (sym (mapped.instrs b))
        (instrs_home k (length b.phis) (length c.phis) (phi_values b) (phi_values c) b.instrs makes (λ l. subst (IsListed v) (sym (phi_values_same b)) l) (each_left Fine instrs end rest)))
        (locals_home p q k k (block_values b) (block_values c) refl (block_within b makes) (locals_in (ending_operands b.term)) (locals_in (ending_operands c.term)) (mapped.endings b) (each_right Fine instrs end rest)))

    blocks_home : (k : ℕ) (bs : List Block) → Each (λ b. Each Makes b.instrs) bs → Each Fine (blocks_uses f func k bs) → Each Late (blocks_uses g func k (map block bs))
    blocks_home k [] makes fine = tt
    blocks_home k (b ∷ bs) makes fine =
        each_behind Late (block_uses g func k (block b)) (blocks_uses g func (k + 1) (map block bs))
        (block_home k b makes.0 (each_left Fine (block_uses f func k b) (blocks_uses f func (k + 1) bs) fine))
        (blocks_home (k + 1) bs makes.1 (each_right Fine (block_uses f func k b) (blocks_uses f func (k + 1) bs) fine))

    pub none_used_mapped : (IsUsedBehind func f s v → ⊥) → IsUsedBehind func g s v → ⊥
    none_used_mapped =
        none_used f g s s v same func
        (λ fine. subst (λ (bs : List Block). Each Late (blocks_uses g func 0 bs)) (sym mapped.blocks) (blocks_home 0 f.blocks mapped.makes fine))

-- ---- of all saves

module _ (func : ℕ) (f g : Function) (alike : IsAlike f g) (same_saves : points_where is_save g ≡ points_where is_save f) where
  abbrev IsSaveOf : Point → Point → Type 0
  IsSaveOf k s = (has_point (points_where is_save f) k ≡ true) × (suspend_of f k ≡ Some s)

  kept_alike : ((k s : Point) (v : ℕ) → IsSaveOf k s → IsMadeIn g k s v → IsMadeIn f k s v) → ((k s : Point) (v : ℕ) → IsSaveOf k s → IsMadeIn f k s v → (IsUsedBehind func f s v → ⊥) → IsUsedBehind func g s v → ⊥) → NoneKept func f → NoneKept func g
  kept_alike made_home used_home h = record {
    each = λ k s v there suspend made used.
        let stands : has_point (points_where is_save f) k ≡ true = ap (λ (ps : List Point). has_point ps k) (sym same_saves) ∙ there in
        let x = passing_is is_save (instr_at f k) (where_pass is_save f k stands) in
        let own : suspend_of f k ≡ Some s = ap (λ (ps : List Point). slice_get ps 0) (sym (alike.suspends k x.0 x.1.0 x.1.1)) ∙ suspend in
        let home = made_home k s v (stands, own) made in
        used_home k s v (stands, own) home (λ u. h.each k s v stands own home u) used;
  }

begin_ends : (i : Instr) → is_call_of Intrinsic.CoroBegin i ≡ true → ends_window i ≡ true
begin_ends (Instr.Call result must_tail ty (Callee.Intrinsic Intrinsic.CoroBegin) args) e = refl
begin_ends _ e = absurd (cc)

-- ---- where begin gets a name

named_makes : (n v : ℕ) (i : Instr) → Unnamed i → IsListed v (option_to_list (result_of i)) → IsListed v (option_to_list (result_of (named_instr n i)))
named_makes n v (Instr.Call result must_tail ty (Callee.Intrinsic Intrinsic.CoroBegin) args) e l = absurd (subst (λ (o : Option ℕ). IsListed v (option_to_list o)) (e refl) l)
named_makes n v _ e l = l

named_result : (n : ℕ) (i : Instr) → is_call_of Intrinsic.CoroBegin i ≡ false → result_of (named_instr n i) ≡ result_of i
named_result n (Instr.Call result must_tail ty (Callee.Intrinsic Intrinsic.CoroBegin) args) e = absurd (cc)
named_result n _ e = refl

module _ (func : ℕ) (f : Function) (none : first_result Intrinsic.CoroBegin f ≡ None) (windows : NoWrongWindow f) where
  abbrev n : ℕ
  n = length f.names

  abbrev named : Function
  named = begin_named f

  named_mapped : (v : ℕ) → IsMapped f named v (named_block n) (λ p. p) (λ i. i) (named_instr n)
  named_mapped v = record {
    blocks = refl;
    phis = λ b. sym (map_itself b.phis);
    instrs = λ b. refl;
    targets = λ b. refl;
    endings = λ b l. l;
    results = λ p. refl;
    incomings = λ p. sym (map_itself p.incoming);
    from = λ i. refl;
    values = λ i e. e;
    uses = λ i l. subst (λ (xs : List Operand). IsListed v (locals_in xs)) (part_operands_same n i) l;
    makes =
        each_more (λ b. Each Unnamed b.instrs) (λ b. Each (λ i. IsListed v (option_to_list (result_of i)) → IsListed v (option_to_list (result_of (named_instr n i)))) b.instrs)
        (λ b e. each_more Unnamed (λ i. IsListed v (option_to_list (result_of i)) → IsListed v (option_to_list (result_of (named_instr n i)))) (named_makes n v) b.instrs e)
        f.blocks (unnamed_by f.blocks none);
    position = position_named f;
  }

  stood_back : (k s : Point) (v : ℕ) → has_point (points_where is_save f) k ≡ true → suspend_of f k ≡ Some s → ComeBack f named (alike_named f) k s v
  stood_back k s v there suspend p i inside e r = on (is_call_of Intrinsic.CoroBegin was.old) refl
    where
      was : Stood f p i
      was = stood f p i e

      on : (b : Bool) → is_call_of Intrinsic.CoroBegin was.old ≡ b → (j : Instr) × ((instr_at f p ≡ Some j) × (result_of j ≡ Some v))
      on true c = absurd (no_call_inside f windows k s p there suspend inside (ap (passes ends_window) was.stands ∙ begin_ends was.old c))
      on false c = (was.old, (was.stands, sym (named_result n was.old c) ∙ ap result_of (sym was.is) ∙ r))

  own_named : (s : Point) → own_blocks named s ≡ own_blocks f s
  own_named s =
      let first = ap (position_of named) (resume_named f s) ∙ position_named f (resume_label f s) in
      let second = ap (position_of named) (destroy_named f s) ∙ position_named f (destroy_label f s) in
      (λ k. first k ∷ second k ∷ [])

  pub kept_named : NoneKept func f → NoneKept func (begin_named f)
  kept_named =
      kept_alike func f named (alike_named f) (points_same f is_save is_save (call_same n Intrinsic.CoroSave))
      (λ k s v save made. made_back f named (alike_named f) k s v (stood_back k s v save.0 save.1) (phi_results_same f named v (named_block n) (λ p. p) (λ i. i) (named_instr n) (named_mapped v)) made)
      (λ k s v save made. none_used_mapped f named v (named_block n) (λ p. p) (λ i. i) (named_instr n) (named_mapped v) func s (own_named s) (end_named n f))

-- ---- where uses are renamed

plain_listed : (r : Renaming) (v : ℕ) (ps : List Phi) → Each (λ p. IsPlain r p.result) ps → IsListed v (map (λ (p : Phi). p.result) ps) → IsPlain r v
plain_listed r v [] h l = absurd l
plain_listed r v (p ∷ ps) h (inl e) = subst (IsPlain r) (sym e) h.0
plain_listed r v (p ∷ ps) h (inr l) = plain_listed r v ps h.1 l

module _ (r : Renaming) (v : ℕ) (other : v ≡ r.to → ⊥) where
  value_home : (x : Operand) → local_of (renamed r x) ≡ Some v → local_of x ≡ Some v
  value_home (Operand.Local n) e = on (is_renamed r n) e
    where
      on : (b : Bool) → Some (if b then r.to else n) ≡ Some v → Some n ≡ Some v
      on true e = let same : r.to ≡ v = cc in absurd (other (sym same))
      on false e = e
  value_home (Operand.Global n) e = e
  value_home (Operand.Number z) e = e
  value_home Operand.True e = e
  value_home Operand.False e = e
  value_home Operand.Null e = e
  value_home Operand.None e = e
  value_home Operand.Poison e = e

  head_home : (o q : Option ℕ) (xs ys : List ℕ) → (o ≡ Some v → q ≡ Some v) → (IsListed v xs → IsListed v ys) → IsListed v (option_to_list o ++ xs) → IsListed v (option_to_list q ++ ys)
  head_home None None xs ys h w l = w l
  head_home None (Some m) xs ys h w l = inr (w l)
  head_home (Some n) q xs ys h w (inl e) = subst (λ (x : Option ℕ). IsListed v (option_to_list x ++ ys)) (sym (h (ap Some (sym e)))) (inl refl)
  head_home (Some n) None xs ys h w (inr l) = w l
  head_home (Some n) (Some m) xs ys h w (inr l) = inr (w l)

  operands_home : (xs : List Operand) → IsListed v (locals_in (map (renamed r) xs)) → IsListed v (locals_in xs)
  operands_home [] l = l
  operands_home (x ∷ xs) l = head_home (local_of (renamed r x)) (local_of x) (locals_in (map (renamed r) xs)) (locals_in xs) (value_home x) (operands_home xs) l

  first_home : (x : Operand) (xs : List Operand) → IsListed v (locals_in (renamed r x ∷ xs)) → IsListed v (locals_in (x ∷ xs))
  first_home x xs l = head_home (local_of (renamed r x)) (local_of x) (locals_in xs) (locals_in xs) (value_home x) (λ k. k) l

  ending_home : (t : Terminator) → IsListed v (locals_in (ending_operands (renamed_term r t))) → IsListed v (locals_in (ending_operands t))
  ending_home (Terminator.Jump label) l = l
  ending_home (Terminator.Branch x a b) l = first_home x [] l
  ending_home (Terminator.Switch arg default cases) l = first_home arg.value (map (λ k. k.arg.value) cases) l
  ending_home (Terminator.Ret None) l = l
  ending_home (Terminator.Ret (Some a)) l = first_home a.value [] l
  ending_home Terminator.Unreachable l = l

  renamed_mapped : (f : Function) → IsMapped f (renamed_coroutine r f) v (renamed_block r) (renamed_phi r) (renamed_incoming r) (renamed_instr r)
  renamed_mapped f = record {
    blocks = refl;
    phis = λ b. refl;
    instrs = λ b. refl;
    targets = λ b. targets_renamed r b.term;
    endings = λ b. ending_home b.term;
    results = λ p. refl;
    incomings = λ p. refl;
    from = λ i. refl;
    values = λ i. value_home i.value;
    uses = λ i l. operands_home (instr_operands i) (subst (λ (xs : List Operand). IsListed v (locals_in xs)) (operands_renamed r i) l);
    makes =
        each_always (λ b. Each (λ i. IsListed v (option_to_list (result_of i)) → IsListed v (option_to_list (result_of (renamed_instr r i)))) b.instrs)
        (λ b. each_always (λ i. IsListed v (option_to_list (result_of i)) → IsListed v (option_to_list (result_of (renamed_instr r i)))) (λ i l. subst (λ (o : Option ℕ). IsListed v (option_to_list o)) (sym (result_stays r i)) l) b.instrs)
        f.blocks;
    position = position_renamed r f;
  }

module _ (r : Renaming) (func : ℕ) (f : Function) (ok : IsRegular f r) (windows : NoWrongWindow f) where
  abbrev renamed_one : Function
  renamed_one = renamed_coroutine r f

  -- begin's value isn't made in a window
  not_begins : (k s : Point) (v : ℕ) → has_point (points_where is_save f) k ≡ true → suspend_of f k ≡ Some s → IsMadeIn f k s v → v ≡ r.to → ⊥
  not_begins k s v there suspend (ByInstr p i inside e made) same =
      no_call_inside f windows k s p there suspend inside (ap (passes ends_window) e ∙ begin_ends i (ok.begin_calls p i e (sym (result_spelt i) ∙ made ∙ ap Some same)))
  not_begins k s v there suspend (ByPhi block inside l) same = on (slice_get f.blocks block) l (ok.phis block)
    where
      on : (o : Option Block) → IsListed v (map (λ (p : Phi). p.result) (phis_in o)) → Each (λ p. IsPlain r p.result) (phis_of o) → ⊥
      on None l h = absurd l
      on (Some b) l h = not_equal v r.to (plain_listed r v b.phis h l).is_other same

  was_back : (k s : Point) (v : ℕ) → ComeBack f renamed_one (alike_renamed r f ok) k s v
  was_back k s v p i inside e made = let was = instr_was r f p i e in (was.0, (was.1.0, sym (result_stays r was.0) ∙ ap result_of (sym was.1.1) ∙ made))

  renamed_results : (block : ℕ) → phi_results renamed_one block ≡ phi_results f block
  renamed_results block = ap (λ (o : Option Block). map (λ (p : Phi). p.result) (phis_in o)) (slice_get-map (renamed_block r) f.blocks block) ∙ on (slice_get f.blocks block)
    where
      all : (ps : List Phi) → map (λ (p : Phi). p.result) (map (renamed_phi r) ps) ≡ map (λ (p : Phi). p.result) ps
      all [] = refl
      all (p ∷ ps) = ap (λ (vs : List ℕ). p.result ∷ vs) (all ps)

      on : (o : Option Block) → map (λ (p : Phi). p.result) (phis_in (option_map (renamed_block r) o)) ≡ map (λ (p : Phi). p.result) (phis_in o)
      on None = refl
      on (Some b) = all b.phis

  own_renamed : (s : Point) → own_blocks renamed_one s ≡ own_blocks f s
  own_renamed s =
      let first = ap (position_of renamed_one) (resume_renamed r f s) ∙ position_renamed r f (resume_label f s) in
      let second = ap (position_of renamed_one) (destroy_renamed r f s) ∙ position_renamed r f (destroy_label f s) in
      (λ k. first k ∷ second k ∷ [])

  pub kept_renamed : NoneKept func f → NoneKept func (renamed_coroutine r f)
  kept_renamed =
      kept_alike func f renamed_one (alike_renamed r f ok) (points_where_same r is_save is_save (call_of_same r Intrinsic.CoroSave) f)
      (λ k s v save made. made_back f renamed_one (alike_renamed r f ok) k s v (was_back k s v) renamed_results made)
      (λ k s v save made.
      none_used_mapped f renamed_one v (renamed_block r) (renamed_phi r) (renamed_incoming r) (renamed_instr r)
      (renamed_mapped r v (not_begins k s v save.0 save.1 made) f) func s (own_renamed s) (end_renamed r f))
