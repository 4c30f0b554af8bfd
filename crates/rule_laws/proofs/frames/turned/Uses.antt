-- No path of the result reaches a use without its value (F2): edges stay, blocks make what they made, and new values are used right behind.
use Rattle.std.proofs.Common.{◌≡◌, ⊎_elim, inl, inr, ℕ, zero, suc, ◌+◌, List, [], ◌∷◌, ◌++◌, pos, length, refl, sym, ap, subst}
use Rattle.std.specs.Prelude.{None, Option, Some, map, option_to_list, slice_get}
use Rattle.ir_laws.specs.ir_base.declared.ops.Pred.{Pred}
use Rattle.ir_laws.specs.ir_base.declared.outcome.Place.{Place}
use Rattle.ir_laws.specs.ir_calls.Calls.{is_true}
use Rattle.rule_uses.specs.Undefined.{Entry, IsFirstUndefined, Later, Next, Nowhere, ReachesWithout, params_of}
use Rattle.rule_uses.specs.Uses.{Use, block_uses, block_values, blocks_uses, incoming_uses, instr_uses, made_by_instrs, made_by_phis, phi_uses, phi_values, uses_at, uses_of, values_at, values_in}
use Rattle.ir_laws.proofs.facts.Members.{each_behind, each_left, each_right}
use Rattle.rule_laws.proofs.rules.renamed.Uses.{none_undefined}
use Rattle.ir_laws.proofs.paths.source_rules.Locals.{listed_either, listed_left, listed_right}
use Rattle.rule_laws.proofs.rules.source_rules.Locals.{made_by}
use Rattle.ir_laws.specs.flow_solver.Paths.{IsListed}
use Rattle.ir_parts.specs.Contents.{arg_operands, ending_operands, instr_operands, result_of}
use Rattle.ir_parts.specs.Parts.{instr_place}
use Rattle.pass_intrinsics.specs.Lowered.{address, call_pointer, load_pointer, lowered, names_taken, operand_at, promise_distance}
use Rattle.pass_intrinsics.specs.declared.shape.Part.{Part}
use Rattle.pass_intrinsics.specs.declared.shape.Shape.{Shape}
use Rattle.ir_laws.specs.ir_model.Names.{position_of}
use Rattle.ir_laws.specs.ir_model.Ty.{ptr}
use Rattle.ir_laws.specs.ir_model.declared.instr.Incoming.{Incoming}
use Rattle.ir_laws.specs.ir_model.declared.instr.Instr.{Instr}
use Rattle.ir_laws.specs.ir_model.declared.instr.Phi.{Phi}
use Rattle.ir_laws.specs.ir_model.declared.instr.Terminator.{Terminator}
use Rattle.ir_laws.specs.ir_model.declared.module.Block.{Block}
use Rattle.ir_laws.specs.ir_model.declared.module.Function.{Function}
use Rattle.ir_laws.specs.ir_model.declared.operand.Arg.{Arg}
use Rattle.ir_laws.specs.ir_model.declared.operand.Operand.{Operand}
use Rattle.rule_laws.proofs.frames.turned.Edges.{same_edges, same_position}
use Rattle.rule_laws.proofs.frames.turned.Turned.{AreTurned, Becomes, Destroyed, IsTurned, NoneTurned, OneTurned, Promised, Resumed, Same, Tested, becomes, names_behind, turned}
use Rattle.rule_laws.proofs.rules.turned.Turned.{IsOuter}
use Rattle.ir_laws.specs.run_laws.changed.Changed.{Each}
use Rattle.rule_laws.proofs.rules.woven_rules.Uses.{IsFine, IsSound, IsSoundIn, fine_incoming, fine_uses, sound_incoming, sound_uses}

-- what one has, the other has
abbrev pub Within : List ℕ → List ℕ → Type 0
Within before made = (v : ℕ) → IsListed v before → IsListed v made

-- values that instructions make, behind others
abbrev pub made_before : List ℕ → List Instr → List ℕ
made_before = made_by_instrs

within_more : (before made : List ℕ) (v : ℕ) → Within before made → Within before (v ∷ made)
within_more before made v k x l = inr (k x l)

within_made : (before made : List ℕ) (o : Option ℕ) → Within before made → Within (option_to_list o ++ before) (option_to_list o ++ made)
within_made before made o k x l =
    ⊎_elim (λ here. listed_left x (option_to_list o) made here) (λ more. listed_right x (option_to_list o) made (k x more)) (listed_either x (option_to_list o) before l)

-- what an instruction makes is made by what it becomes
pub within_becomes : (n : ℕ) (before made : List ℕ) (i : Instr) (js : List Instr) (taken : ℕ) → Becomes n i js taken → Within before made → Within (made_by i ++ before) (made_by_instrs made js)
within_becomes n before made _ _ _ (Same i) k = within_made before made (result_of i) k
within_becomes n before made _ _ _ (Resumed must_tail ty args) k = within_more before made n k
within_becomes n before made _ _ _ (Destroyed must_tail ty args) k = within_more before (n ∷ made) (n + 1) (within_more before made n k)
within_becomes n before made _ _ _ (Tested None must_tail ty args) k = k
within_becomes n before made _ _ _ (Tested (Some r) must_tail ty args) k = within_made before (n ∷ made) (Some r) (within_more before made n k)
within_becomes n before made _ _ _ (Promised None must_tail ty args) k = k
within_becomes n before made _ _ _ (Promised (Some r) must_tail ty args) k = within_made before made (Some r) k

pub made_joined : (made : List ℕ) (is js : List Instr) → made_by_instrs made (is ++ js) ≡ made_by_instrs (made_by_instrs made is) js
made_joined made [] js = refl
made_joined made (i ∷ is) js = made_joined (made_by i ++ made) is js

within_turned : (s : Shape) (n : ℕ) (before made : List ℕ) (is : List Instr) → Each IsOuter is → Within before made → Within (made_by_instrs before is) (made_by_instrs made (turned s n is))
within_turned s n before made [] o k = k
within_turned s n before made (i ∷ is) o k =
    subst (Within (made_by_instrs (made_by i ++ before) is)) (sym (made_joined made (lowered s Part.Ramp n i) (turned s (n + names_taken i) is)))
    (within_turned s (n + names_taken i) (made_by i ++ before) (made_by_instrs made (lowered s Part.Ramp n i)) is o.1 (within_becomes n before made i (lowered s Part.Ramp n i) (names_taken i) (becomes s n i o.0) k))

all_fine : (f : Function) (us : List Use) → Each (IsFine f) us → IsFirstUndefined f us None
all_fine f [] h = Nowhere
all_fine f (u ∷ us) h = Later u us None h.0 (all_fine f us h.1)

module _ (s : Shape) (f g : Function) (first : ℕ) (blocks : AreTurned s first f.blocks g.blocks) (params : g.params ≡ f.params) where
  phis_within : (n : ℕ) (b c : Block) → IsTurned s n b c → Within (phi_values b) (phi_values c)
  phis_within n b c t v l = subst (λ (ps : List Phi). IsListed v (made_by_phis [] ps)) (sym t.phis) l

  block_within : (n : ℕ) (b c : Block) → IsTurned s n b c → Within (block_values b) (block_values c)
  block_within n b c t = subst (λ (js : List Instr). Within (block_values b) (made_by_instrs (phi_values c) js)) (sym t.instrs) (within_turned s n (phi_values b) (phi_values c) b.instrs t.outer (phis_within n b c t))

  blocks_within : (at n : ℕ) (bs cs : List Block) → AreTurned s n bs cs → Within (values_in (slice_get bs at)) (values_in (slice_get cs at))
  blocks_within at _ _ _ (NoneTurned n) v l = l
  blocks_within zero _ _ _ (OneTurned n b c bs cs t rest) v l = block_within n b c t v l
  blocks_within (suc at) _ _ _ (OneTurned n b c bs cs t rest) v l = blocks_within at (names_behind n b.instrs) bs cs rest v l

  pub within_at : (block : ℕ) → Within (values_at f block) (values_at g block)
  within_at block = blocks_within block first f.blocks g.blocks blocks

  -- ---- paths

  path_before : (v block : ℕ) → ReachesWithout g v block → ReachesWithout f v block
  path_before v _ Entry = Entry
  path_before v _ (Next from to r none e) = Next from to (path_before v from r) (λ l. none (within_at from v l)) (subst (IsListed (from, to)) (same_edges s f g first blocks) e)

  same_params : params_of g ≡ params_of f
  same_params = ap (λ ps. map (λ p. p.name) ps) params

  operand_sound : (block : ℕ) (before made : List ℕ) → Within before made → (x : Operand) → IsSound f block before x → IsSound g block made x
  operand_sound block before made k (Operand.Local v) h = λ reach unmade no_param. h (path_before v block reach) (λ l. unmade (k v l)) (λ l. no_param (subst (IsListed v) (sym same_params) l))
  operand_sound block before made k _ h = tt

  all_sound : (block : ℕ) (before made : List ℕ) → Within before made → (xs : List Operand) → Each (IsSound f block before) xs → Each (IsSound g block made) xs
  all_sound block before made k [] h = tt
  all_sound block before made k (x ∷ xs) h = (operand_sound block before made k x h.0, all_sound block before made k xs h.1)

  -- a value that the block has made is there
  there : (block v : ℕ) (made : List ℕ) → IsListed v made → IsSound g block made (Operand.Local v)
  there block v made l = λ reach unmade no_param. unmade l

  -- an operand that stands behind further values, too
  later : (block v : ℕ) (made : List ℕ) (x : Operand) → IsSound g block made x → IsSound g block (v ∷ made) x
  later block v made (Operand.Local w) h = λ reach unmade no_param. h reach (λ l. unmade (inr l)) no_param
  later block v made _ h = tt

  argument_sound : (block : ℕ) (made : List ℕ) (args : List Arg) (at : ℕ) → Each (IsSound g block made) (arg_operands args) → IsSound g block made (operand_at args at)
  argument_sound block made [] at h = tt
  argument_sound block made (a ∷ args) zero h = h.0
  argument_sound block made (a ∷ args) (suc at) h = argument_sound block made args at h.1

  -- ---- uses

  abbrev Fine : (func block at : ℕ) → List ℕ → List Instr → Type 0
  Fine func block at made js = Each (IsFine g) (instr_uses func block at made js)

  used : (func block at : ℕ) (made : List ℕ) (j : Instr) (js : List Instr) → Each (IsSound g block made) (instr_operands j) → Fine func block (at + 1) (made_by j ++ made) js → Fine func block at made (j ∷ js)
  used func block at made j js h rest =
      each_behind (IsFine g) (uses_at (instr_place func block at) block made (instr_operands j)) (instr_uses func block (at + 1) (made_by j ++ made) js)
      (fine_uses g (instr_place func block at) block made (instr_operands j) h) rest

  becomes_fine : (func block at n : ℕ) (made : List ℕ) (i : Instr) (js ks : List Instr) (taken : ℕ) → Becomes n i js taken → Each (IsSound g block made) (instr_operands i)
      → ((later_at : ℕ) → Fine func block later_at (made_by_instrs made js) ks) → Fine func block at made (js ++ ks)
  becomes_fine func block at n made _ _ ks _ (Same i) h rest = used func block at made i ks h (rest (at + 1))
  becomes_fine func block at n made _ _ ks _ (Resumed must_tail ty args) h rest =
      let p : Operand = operand_at args 0 in
      let s0 : IsSound g block made p = argument_sound block made args 0 h in
      used func block at made (load_pointer n p) (call_pointer n p ∷ ks) (s0, tt)
      (used func block (at + 1) (n ∷ made) (call_pointer n p) ks (there block n (n ∷ made) (inl refl), (later block n made p s0, tt)) (rest (at + 1 + 1)))
  becomes_fine func block at n made _ _ ks _ (Destroyed must_tail ty args) h rest =
      let p : Operand = operand_at args 0 in
      let s0 : IsSound g block made p = argument_sound block made args 0 h in
      let s1 : IsSound g block (n ∷ made) p = later block n made p s0 in
      let s2 : IsSound g block ((n + 1) ∷ n ∷ made) p = later block (n + 1) (n ∷ made) p s1 in
      used func block at made (address n p (pos 8)) (load_pointer (n + 1) (Operand.Local n) ∷ call_pointer (n + 1) p ∷ ks) (s0, (tt, tt))
      (used func block (at + 1) (n ∷ made) (load_pointer (n + 1) (Operand.Local n)) (call_pointer (n + 1) p ∷ ks) (there block n (n ∷ made) (inl refl), tt)
      (used func block (at + 1 + 1) ((n + 1) ∷ n ∷ made) (call_pointer (n + 1) p) ks (there block (n + 1) ((n + 1) ∷ n ∷ made) (inl refl), (s2, tt)) (rest (at + 1 + 1 + 1))))
  becomes_fine func block at n made _ _ ks _ (Tested None must_tail ty args) h rest = rest at
  becomes_fine func block at n made _ _ ks _ (Tested (Some r) must_tail ty args) h rest =
      let p : Operand = operand_at args 0 in
      let s0 : IsSound g block made p = argument_sound block made args 0 h in
      used func block at made (load_pointer n p) (Instr.Icmp r Pred.Eq ptr (Operand.Local n) Operand.Null ∷ ks) (s0, tt)
      (used func block (at + 1) (n ∷ made) (Instr.Icmp r Pred.Eq ptr (Operand.Local n) Operand.Null) ks (there block n (n ∷ made) (inl refl), (tt, tt)) (rest (at + 1 + 1)))
  becomes_fine func block at n made _ _ ks _ (Promised None must_tail ty args) h rest = rest at
  becomes_fine func block at n made _ _ ks _ (Promised (Some r) must_tail ty args) h rest =
      let p : Operand = operand_at args 0 in
      used func block at made (address r p (promise_distance (is_true (operand_at args 2)))) ks (argument_sound block made args 0 h, (tt, tt)) (rest (at + 1))

  instrs_fine : (k l block at n now_at : ℕ) (before made : List ℕ) (is : List Instr) → Each IsOuter is → Within before made → Each (IsFine f) (instr_uses k block at before is) → Fine l block now_at made (turned s n is)
  instrs_fine k l block at n now_at before made [] o w h = tt
  instrs_fine k l block at n now_at before made (i ∷ is) o w h =
      let here : List Use = uses_at (instr_place k block at) block before (instr_operands i) in
      let more : List Use = instr_uses k block (at + 1) (made_by i ++ before) is in
      becomes_fine l block now_at n made i (lowered s Part.Ramp n i) (turned s (n + names_taken i) is) (names_taken i) (becomes s n i o.0)
      (all_sound block before made w (instr_operands i) (sound_uses f (instr_place k block at) block before (instr_operands i) (each_left (IsFine f) here more h)))
      (λ later_at. instrs_fine k l block (at + 1) (n + names_taken i) later_at (made_by i ++ before) (made_by_instrs made (lowered s Part.Ramp n i)) is o.1
      (within_becomes n before made i (lowered s Part.Ramp n i) (names_taken i) (becomes s n i o.0) w) (each_right (IsFine f) here more h))

  incoming_sound : (is : List Incoming) → Each (IsSoundIn f) is → Each (IsSoundIn g) is
  incoming_sound [] h = tt
  incoming_sound (i ∷ is) h =
      let at : ℕ = position_of g i.from in
      let old : IsSound f at (values_at f at) i.value = subst (λ (n : ℕ). IsSound f n (values_at f n) i.value) (sym (same_position s f g first blocks i.from)) h.0 in
      (operand_sound at (values_at f at) (values_at g at) (within_at at) i.value old, incoming_sound is h.1)

  phis_fine : (k l block at : ℕ) (ps : List Phi) → Each (IsFine f) (phi_uses f k block at ps) → Each (IsFine g) (phi_uses g l block at ps)
  phis_fine k l block at [] h = tt
  phis_fine k l block at (p ∷ ps) h =
      let here : List Use = incoming_uses f (instr_place k block at) p.incoming in
      let more : List Use = phi_uses f k block (at + 1) ps in
      each_behind (IsFine g) (incoming_uses g (instr_place l block at) p.incoming) (phi_uses g l block (at + 1) ps)
      (fine_incoming g (instr_place l block at) p.incoming (incoming_sound p.incoming (sound_incoming f (instr_place k block at) p.incoming (each_left (IsFine f) here more h))))
      (phis_fine k l block (at + 1) ps (each_right (IsFine f) here more h))

  block_fine : (k l n block : ℕ) (b c : Block) → IsTurned s n b c → Each (IsFine f) (block_uses f k block b) → Each (IsFine g) (block_uses g l block c)
  unfolding block_uses
  block_fine k l n block b c t h =
      let p : Place = instr_place k block (length b.phis + length b.instrs) in
      let q : Place = instr_place l block (length c.phis + length c.instrs) in
      let phis : List Use = phi_uses f k block 0 b.phis in
      let instrs : List Use = instr_uses k block (length b.phis) (phi_values b) b.instrs in
      let end : List Use = uses_at p block (block_values b) (ending_operands b.term) in
      let rest : Each (IsFine f) (instrs ++ end) = each_right (IsFine f) phis (instrs ++ end) h in
      each_behind (IsFine g) (phi_uses g l block 0 c.phis) (instr_uses l block (length c.phis) (phi_values c) c.instrs ++ uses_at q block (block_values c) (ending_operands c.term))
      (subst (λ (ps : List Phi). Each (IsFine g) (phi_uses g l block 0 ps)) (sym t.phis) (phis_fine k l block 0 b.phis (each_left (IsFine f) phis (instrs ++ end) h)))
      (each_behind (IsFine g) (instr_uses l block (length c.phis) (phi_values c) c.instrs) (uses_at q block (block_values c) (ending_operands c.term))
      (subst (λ (js : List Instr). Fine l block (length c.phis) (phi_values c) js) (sym t.instrs)
      (instrs_fine k l block (length b.phis) n (length c.phis) (phi_values b) (phi_values c) b.instrs t.outer (phis_within n b c t) (each_left (IsFine f) instrs end rest)))
      (subst (λ (u : Terminator). Each (IsFine g) (uses_at q block (block_values c) (ending_operands u))) (sym t.term)
      (fine_uses g q block (block_values c) (ending_operands b.term)
      (all_sound block (block_values b) (block_values c) (block_within n b c t) (ending_operands b.term) (sound_uses f p block (block_values b) (ending_operands b.term) (each_right (IsFine f) instrs end rest))))))

  blocks_fine : (k l n block : ℕ) (bs cs : List Block) → AreTurned s n bs cs → Each (IsFine f) (blocks_uses f k block bs) → Each (IsFine g) (blocks_uses g l block cs)
  blocks_fine k l _ block _ _ (NoneTurned n) h = tt
  blocks_fine k l _ block _ _ (OneTurned n b c bs cs t rest) h =
      each_behind (IsFine g) (block_uses g l block c) (blocks_uses g l (block + 1) cs)
      (block_fine k l n block b c t (each_left (IsFine f) (block_uses f k block b) (blocks_uses f k (block + 1) bs) h))
      (blocks_fine k l (names_behind n b.instrs) (block + 1) bs cs rest (each_right (IsFine f) (block_uses f k block b) (blocks_uses f k (block + 1) bs) h))

  pub uses_turned : (k l : ℕ) → IsFirstUndefined f (uses_of k f) None → IsFirstUndefined g (uses_of l g) None
  uses_turned k l u = all_fine g (uses_of l g) (blocks_fine k l first 0 f.blocks g.blocks blocks (none_undefined f (uses_of k f) None u refl))
