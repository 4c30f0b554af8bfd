-- No path of the result reaches a use without its value (rule F2).
use Rattle.std.proofs.Common.{◌≡◌, ⊎_elim, ℕ, zero, suc, ◌+◌, true, false, List, [], ◌∷◌, ◌++◌, length, refl, sym, ap, ◌∙◌, subst}
use Rattle.std.specs.Prelude.{None, Option, Some, map, option_to_list, slice_get}
use Rattle.flow_blocks.specs.Edges.{block_edges}
use Rattle.ir_laws.specs.ir_base.declared.outcome.Place.{Place}
use Rattle.rule_uses.specs.Undefined.{Later, Nowhere, Entry, IsFirstUndefined, IsUndefined, Next, ReachesWithout, params_of}
use Rattle.rule_uses.specs.Uses.{Use, block_uses, block_values, blocks_uses, incoming_use, incoming_uses, instr_uses, local_of, made_by_instrs, made_by_phis, phi_uses, phi_values, uses_at, uses_of, values_at, values_in}
use Rattle.ir_laws.proofs.facts.Members.{each_behind, each_left, each_right}
use Rattle.rule_laws.proofs.rules.renamed.Uses.{none_undefined}
use Rattle.ir_laws.proofs.paths.source_rules.Locals.{listed_either, listed_left, listed_right}
use Rattle.rule_laws.proofs.rules.source_rules.Locals.{made_by}
use Rattle.ir_laws.specs.flow_solver.Paths.{IsListed}
use Rattle.ir_parts.specs.Contents.{ending_operands, instr_operands, result_of}
use Rattle.ir_parts.specs.Parts.{instr_place}
use Rattle.ir_laws.specs.ir_model.Names.{position_of}
use Rattle.ir_laws.specs.ir_model.declared.instr.Incoming.{Incoming}
use Rattle.ir_laws.specs.ir_model.declared.instr.Instr.{Instr}
use Rattle.ir_laws.specs.ir_model.declared.instr.Phi.{Phi}
use Rattle.ir_laws.specs.ir_model.declared.module.Block.{Block}
use Rattle.ir_laws.specs.ir_model.declared.module.Function.{Function}
use Rattle.ir_laws.specs.ir_model.declared.module.Module.{Module}
use Rattle.ir_laws.specs.ir_model.declared.operand.Arg.{Arg}
use Rattle.ir_laws.specs.ir_model.declared.operand.Operand.{Operand}
use Rattle.ir_laws.specs.run_laws.changed.Changed.{Each}
use Rattle.rule_laws.proofs.rules.woven_rules.ValueKinds.{listed_result, same_result}
use Rattle.rule_laws.proofs.rules.woven_rules.Laid.{front_listed}
use Rattle.rule_laws.proofs.rules.woven_rules.Operands.{instr_pairs, term_pairs}
use Rattle.rule_laws.specs.rules.woven_rules.Blocks.{AreWoven, AreWovenBlocks, Done, Gone, IsWoven, IsWovenBlock, Kept, NoBlock, OneBlock, Put, Remain, Stays, Unpromised}
use Rattle.ir_laws.specs.facts.woven_rules.Pairs.{Empty, Pair, Pairwise}
use Rattle.rule_laws.specs.rules.woven_rules.Parts.{IncomingStays, PhiStays}
use Rattle.rule_laws.specs.rules.woven_rules.Weaving.{Constant, Fetched, Front, IsInPlace, IsKnown, IsThere, New, Old, Same, Weaving, goes_in, names_nothing}

-- ---- operands whose values are there

-- the operand is no local, or its value is there
abbrev pub IsSound : Function → ℕ → List ℕ → Operand → Type 0
IsSound f block before (Operand.Local v) = IsThere f block before v
IsSound f block before _ = Unit {0}

abbrev pub IsFine : Function → Use → Type 0
IsFine f u = IsUndefined f u → ⊥

pub sound_uses : (f : Function) (p : Place) (block : ℕ) (before : List ℕ) (xs : List Operand) → Each (IsFine f) (uses_at p block before xs) → Each (IsSound f block before) xs
sound_uses f p block before [] h = tt
sound_uses f p block before (Operand.Local v ∷ xs) h = ((λ r b n. h.0 (record { reaches = r; not_before = b; no_param = n })), sound_uses f p block before xs h.1)
sound_uses f p block before (Operand.Global n ∷ xs) h = (tt, sound_uses f p block before xs h)
sound_uses f p block before (Operand.Number z ∷ xs) h = (tt, sound_uses f p block before xs h)
sound_uses f p block before (Operand.True ∷ xs) h = (tt, sound_uses f p block before xs h)
sound_uses f p block before (Operand.False ∷ xs) h = (tt, sound_uses f p block before xs h)
sound_uses f p block before (Operand.Null ∷ xs) h = (tt, sound_uses f p block before xs h)
sound_uses f p block before (Operand.None ∷ xs) h = (tt, sound_uses f p block before xs h)
sound_uses f p block before (Operand.Poison ∷ xs) h = (tt, sound_uses f p block before xs h)

pub fine_uses : (f : Function) (p : Place) (block : ℕ) (before : List ℕ) (xs : List Operand) → Each (IsSound f block before) xs → Each (IsFine f) (uses_at p block before xs)
fine_uses f p block before [] h = tt
fine_uses f p block before (Operand.Local v ∷ xs) h = ((λ u. h.0 u.reaches u.not_before u.no_param), fine_uses f p block before xs h.1)
fine_uses f p block before (Operand.Global n ∷ xs) h = fine_uses f p block before xs h.1
fine_uses f p block before (Operand.Number z ∷ xs) h = fine_uses f p block before xs h.1
fine_uses f p block before (Operand.True ∷ xs) h = fine_uses f p block before xs h.1
fine_uses f p block before (Operand.False ∷ xs) h = fine_uses f p block before xs h.1
fine_uses f p block before (Operand.Null ∷ xs) h = fine_uses f p block before xs h.1
fine_uses f p block before (Operand.None ∷ xs) h = fine_uses f p block before xs h.1
fine_uses f p block before (Operand.Poison ∷ xs) h = fine_uses f p block before xs h.1

-- an incoming operand at the end of its block
abbrev pub IsSoundIn : Function → Incoming → Type 0
IsSoundIn f i = IsSound f (position_of f i.from) (values_at f (position_of f i.from)) i.value

module _ (f : Function) (p : Place) (i : Incoming) (us : List Use) where
  abbrev Here : Operand → Type 0
  Here x = IsSound f (position_of f i.from) (values_at f (position_of f i.from)) x

  one_sound : (x : Operand) → Each (IsFine f) (map (incoming_use f p i) (option_to_list (local_of x)) ++ us) → Here x × Each (IsFine f) us
  one_sound (Operand.Local v) h = ((λ r b n. h.0 (record { reaches = r; not_before = b; no_param = n })), h.1)
  one_sound (Operand.Global n) h = (tt, h)
  one_sound (Operand.Number z) h = (tt, h)
  one_sound Operand.True h = (tt, h)
  one_sound Operand.False h = (tt, h)
  one_sound Operand.Null h = (tt, h)
  one_sound Operand.None h = (tt, h)
  one_sound Operand.Poison h = (tt, h)

  one_fine : (x : Operand) → Here x → Each (IsFine f) us → Each (IsFine f) (map (incoming_use f p i) (option_to_list (local_of x)) ++ us)
  one_fine (Operand.Local v) s h = ((λ u. s u.reaches u.not_before u.no_param), h)
  one_fine (Operand.Global n) s h = h
  one_fine (Operand.Number z) s h = h
  one_fine Operand.True s h = h
  one_fine Operand.False s h = h
  one_fine Operand.Null s h = h
  one_fine Operand.None s h = h
  one_fine Operand.Poison s h = h

pub sound_incoming : (f : Function) (p : Place) (is : List Incoming) → Each (IsFine f) (incoming_uses f p is) → Each (IsSoundIn f) is
sound_incoming f p [] h = tt
sound_incoming f p (i ∷ is) h = let x = one_sound f p i (incoming_uses f p is) i.value h in (x.0, sound_incoming f p is x.1)

pub fine_incoming : (f : Function) (p : Place) (is : List Incoming) → Each (IsSoundIn f) is → Each (IsFine f) (incoming_uses f p is)
fine_incoming f p [] h = tt
fine_incoming f p (i ∷ is) h = one_fine f p i (incoming_uses f p is) i.value h.0 (fine_incoming f p is h.1)

all_fine : (f : Function) (us : List Use) → Each (IsFine f) us → IsFirstUndefined f us None
all_fine f [] h = Nowhere
all_fine f (u ∷ us) h = Later u us None h.0 (all_fine f us h.1)

-- what the entry block makes is there in all others
pub entry_alone : (g : Function) (n block : ℕ) → IsListed n (values_at g 0) → ReachesWithout g n block → block ≡ 0
entry_alone g n _ l Entry = refl
entry_alone g n _ l (Next from to r none e) = absurd (none (subst (λ (k : ℕ). IsListed n (values_at g k)) (sym (entry_alone g n from l r)) l))

-- ---- what is made in the function is made in the result, unless it goes

pub same_made : (R : ℕ → Operand → Operand → Type 0) (before : List ℕ) (ps qs : List Phi) → Pairwise (PhiStays R) ps qs → made_by_phis before qs ≡ made_by_phis before ps
same_made R before _ _ Empty = refl
same_made R before _ _ (Pair p q ps qs s rest) = ap (λ (n : ℕ). made_by_phis (n ∷ before) qs) s.result ∙ same_made R (p.result ∷ before) ps qs rest

module _ (w : Weaving) (m : Module) (f g : Function) (h : IsWoven w m f g) where
  -- what one has, the other has
  abbrev Within : List ℕ → List ℕ → Type 0
  Within before made = (v : ℕ) → w.goes v ≡ false → IsListed v before → IsListed v made

  pub within_gone : (before made : List ℕ) (i : Instr) → ((n : ℕ) → result_of i ≡ Some n → w.goes n ≡ true) → Within before made → Within (made_by i ++ before) made
  within_gone before made i gone k v stays l =
      ⊎_elim (λ here. let t : true ≡ false = sym (gone v (listed_result (result_of i) v here)) ∙ stays in absurd (cc)) (λ more. k v stays more) (listed_either v (made_by i) before l)

  pub within_put : (before made : List ℕ) (j : Instr) → Within before made → Within before (made_by j ++ made)
  within_put before made j k v stays l = listed_right v (made_by j) made (k v stays l)

  pub within_remain : (before made : List ℕ) (i j : Instr) → Stays w f made i j → Within before made → Within (made_by i ++ before) (made_by j ++ made)
  within_remain before made i j s k v stays l =
      ⊎_elim
      (λ here. listed_left v (made_by j) made (subst (λ (o : Option ℕ). IsListed v (option_to_list o)) (sym (same_result w f made i j s)) here))
      (λ more. listed_right v (made_by j) made (k v stays more))
      (listed_either v (made_by i) before l)

  within_instrs : (block : ℕ) (before made : List ℕ) (is js : List Instr) → AreWoven w m f block made is js → Within before made → Within (made_by_instrs before is) (made_by_instrs made js)
  within_instrs block before made _ _ (Done _) k = k
  within_instrs block before made _ _ (Put _ j is js p rest) k = within_instrs block before (made_by j ++ made) is js rest (within_put before made j k)
  within_instrs block before made _ _ (Gone _ i is js p rest) k = within_instrs block (made_by i ++ before) made is js rest (within_gone before made i p k)
  within_instrs block before made _ _ (Remain _ i j is js s rest) k = within_instrs block (made_by i ++ before) (made_by j ++ made) is js rest (within_remain before made i j s k)

  same_phi_values : (block : ℕ) (b c : Block) → IsWovenBlock w m f g block b c → phi_values c ≡ phi_values b
  same_phi_values block b c s = same_made (λ (from : ℕ). IsInPlace w f (values_at g (position_of g from))) [] b.phis c.phis s.phis

  pub within_phis : (block : ℕ) (b c : Block) → IsWovenBlock w m f g block b c → Within (phi_values b) (phi_values c)
  within_phis block b c s v stays l = subst (IsListed v) (sym (same_phi_values block b c s)) l

  within_block : (block : ℕ) (b c : Block) → IsWovenBlock w m f g block b c → Within (block_values b) (block_values c)
  within_block block b c s = within_instrs block (phi_values b) (phi_values c) b.instrs c.instrs s.instrs (within_phis block b c s)

  within_blocks : (at block : ℕ) (bs cs : List Block) → AreWovenBlocks w m f g block bs cs → Within (values_in (slice_get bs at)) (values_in (slice_get cs at))
  within_blocks at block _ _ (NoBlock _) v stays l = l
  within_blocks zero block _ _ (OneBlock _ b c bs cs s rest) v stays l = within_block block b c s v stays l
  within_blocks (suc at) block _ _ (OneBlock _ b c bs cs s rest) v stays l = within_blocks at (block + 1) bs cs rest v stays l

  pub within_at : (block : ℕ) → Within (values_at f block) (values_at g block)
  within_at block = within_blocks block 0 f.blocks g.blocks h.blocks

  -- ---- paths

  module _ (same_edges : block_edges g ≡ block_edges f) (positions : (label : ℕ) → position_of g label ≡ position_of f label) where
    pub path_before : (v block : ℕ) → w.goes v ≡ false → ReachesWithout g v block → ReachesWithout f v block
    path_before v _ stays Entry = Entry
    path_before v _ stays (Next from to r none e) = Next from to (path_before v from stays r) (λ l. none (within_at from v stays l)) (subst (IsListed (from, to)) same_edges e)

    same_params : params_of g ≡ params_of f
    same_params = ap (λ ps. map (λ p. p.name) ps) h.params

    there_again : (block : ℕ) (before made : List ℕ) → Within before made → (v : ℕ) → w.goes v ≡ false → IsThere f block before v → IsThere g block made v
    there_again block before made k v stays s reach unmade no_param =
        s (path_before v block stays reach) (λ l. unmade (k v stays l)) (λ l. no_param (subst (IsListed v) (sym same_params) l))

    same_sound : (block : ℕ) (before made : List ℕ) → Within before made → (x : Operand) → goes_in w x ≡ false → IsSound f block before x → IsSound g block made x
    same_sound block before made k (Operand.Local v) stays s = there_again block before made k v stays s
    same_sound block before made k _ stays s = tt

    place_sound : (block : ℕ) (before made : List ℕ) → Within before made → (x y : Operand) → IsInPlace w f made x y → IsSound f block before x → IsSound g block made y
    place_sound block before made k _ _ (Same x stays) s = same_sound block before made k x stays s
    place_sound block before made k _ _ (Fetched v n low l e) s = λ reach unmade no_param. unmade l

    pairs_sound : (block : ℕ) (before made : List ℕ) → Within before made → (xs ys : List Operand) → Pairwise (IsInPlace w f made) xs ys → Each (IsSound f block before) xs → Each (IsSound g block made) ys
    pairs_sound block before made k _ _ Empty s = tt
    pairs_sound block before made k _ _ (Pair x y xs ys p rest) s = (place_sound block before made k x y p s.0, pairs_sound block before made k xs ys rest s.1)

    args_sound : (block : ℕ) (before made : List ℕ) → Within before made → (args : List Arg) → Each (λ (b : Arg). goes_in w b.value ≡ false) args → Each (IsSound f block before) (map (λ (a : Arg). a.value) args) → Each (IsSound g block made) (map (λ (a : Arg). a.value) args)
    args_sound block before made k [] stays s = tt
    args_sound block before made k (a ∷ args) stays s = (same_sound block before made k a.value stays.0 s.0, args_sound block before made k args stays.1 s.1)

    remain_sound : (block : ℕ) (before made : List ℕ) → Within before made → (i j : Instr) → Stays w f made i j → Each (IsSound f block before) (instr_operands i) → Each (IsSound g block made) (instr_operands j)
    remain_sound block before made k _ _ (Kept i j t mark) s = pairs_sound block before made k (instr_operands i) (instr_operands j) (instr_pairs (IsInPlace w f made) i j t) s
    remain_sound block before made k _ _ (Unpromised r must_tail ty a p args stays) s = (same_sound block before made k a.value stays.0 s.0, (tt, args_sound block before made k args stays.1 s.1.1))

    known_sound : (block : ℕ) (made : List ℕ) (x : Operand) → IsKnown w f block made x → IsSound g block made x
    known_sound block made _ (New n low l) = λ reach unmade no_param. unmade l
    known_sound block made _ (Front n not_entry l) = λ reach unmade no_param. not_entry (entry_alone g n block (front_listed w g w.fronts h.fronts n l).1 reach)
    known_sound block made _ (Old v stays e s) = λ reach unmade no_param. s (path_before v block stays reach) unmade (λ l. no_param (subst (IsListed v) (sym same_params) l))
    known_sound block made _ (Constant x e) = on x e
      where
        on : (x : Operand) → names_nothing x ≡ true → IsSound g block made x
        on (Operand.Local v) e = absurd (cc)
        on _ e = tt

    knowns_sound : (block : ℕ) (made : List ℕ) (xs : List Operand) → Each (IsKnown w f block made) xs → Each (IsSound g block made) xs
    knowns_sound block made [] k = tt
    knowns_sound block made (x ∷ xs) k = (known_sound block made x k.0, knowns_sound block made xs k.1)

    -- ---- the parts of a block

    instrs_fine : (func block at now_at : ℕ) (before made : List ℕ) (is js : List Instr) → AreWoven w m f block made is js → Within before made → Each (IsFine f) (instr_uses func block at before is) → Each (IsFine g) (instr_uses func block now_at made js)
    instrs_fine func block at now_at before made _ _ (Done _) k s = tt
    instrs_fine func block at now_at before made _ _ (Put _ j is js p rest) k s =
        each_behind (IsFine g) (uses_at (instr_place func block now_at) block made (instr_operands j)) (instr_uses func block (now_at + 1) (made_by j ++ made) js)
        (fine_uses g (instr_place func block now_at) block made (instr_operands j) (knowns_sound block made (instr_operands j) p.operands))
        (instrs_fine func block at (now_at + 1) before (made_by j ++ made) is js rest (within_put before made j k) s)
    instrs_fine func block at now_at before made _ _ (Gone _ i is js p rest) k s =
        instrs_fine func block (at + 1) now_at (made_by i ++ before) made is js rest (within_gone before made i p k)
        (each_right (IsFine f) (uses_at (instr_place func block at) block before (instr_operands i)) (instr_uses func block (at + 1) (made_by i ++ before) is) s)
    instrs_fine func block at now_at before made _ _ (Remain _ i j is js t rest) k s =
        each_behind (IsFine g) (uses_at (instr_place func block now_at) block made (instr_operands j)) (instr_uses func block (now_at + 1) (made_by j ++ made) js)
        (fine_uses g (instr_place func block now_at) block made (instr_operands j)
        (remain_sound block before made k i j t
        (sound_uses f (instr_place func block at) block before (instr_operands i)
        (each_left (IsFine f) (uses_at (instr_place func block at) block before (instr_operands i)) (instr_uses func block (at + 1) (made_by i ++ before) is) s))))
        (instrs_fine func block (at + 1) (now_at + 1) (made_by i ++ before) (made_by j ++ made) is js rest (within_remain before made i j t k)
        (each_right (IsFine f) (uses_at (instr_place func block at) block before (instr_operands i)) (instr_uses func block (at + 1) (made_by i ++ before) is) s))

    incoming_sound : (is js : List Incoming) → Pairwise (IncomingStays (λ (from : ℕ). IsInPlace w f (values_at g (position_of g from)))) is js → Each (IsSoundIn f) is → Each (IsSoundIn g) js
    incoming_sound _ _ Empty s = tt
    incoming_sound _ _ (Pair i j is js t rest) s =
        let there : IsSound f (position_of g i.from) (values_at f (position_of g i.from)) i.value = subst (λ (n : ℕ). IsSound f n (values_at f n) i.value) (sym (positions i.from)) s.0 in
        let here : IsSound g (position_of g i.from) (values_at g (position_of g i.from)) j.value = place_sound (position_of g i.from) (values_at f (position_of g i.from)) (values_at g (position_of g i.from)) (within_at (position_of g i.from)) i.value j.value t.value there in (
          subst (λ (label : ℕ). IsSound g (position_of g label) (values_at g (position_of g label)) j.value) (sym t.from) here,
          incoming_sound is js rest s.1,
        )

    phis_fine : (func block at : ℕ) (ps qs : List Phi) → Pairwise (PhiStays (λ (from : ℕ). IsInPlace w f (values_at g (position_of g from)))) ps qs → Each (IsFine f) (phi_uses f func block at ps) → Each (IsFine g) (phi_uses g func block at qs)
    phis_fine func block at _ _ Empty s = tt
    phis_fine func block at _ _ (Pair p q ps qs t rest) s =
        each_behind (IsFine g) (incoming_uses g (instr_place func block at) q.incoming) (phi_uses g func block (at + 1) qs)
        (fine_incoming g (instr_place func block at) q.incoming
        (incoming_sound p.incoming q.incoming t.incoming
        (sound_incoming f (instr_place func block at) p.incoming (each_left (IsFine f) (incoming_uses f (instr_place func block at) p.incoming) (phi_uses f func block (at + 1) ps) s))))
        (phis_fine func block (at + 1) ps qs rest (each_right (IsFine f) (incoming_uses f (instr_place func block at) p.incoming) (phi_uses f func block (at + 1) ps) s))

    block_fine : (func block : ℕ) (b c : Block) → IsWovenBlock w m f g block b c → Each (IsFine f) (block_uses f func block b) → Each (IsFine g) (block_uses g func block c)
    unfolding block_uses
    block_fine func block b c t s =
        let p : Place = instr_place func block (length b.phis + length b.instrs) in
        let q : Place = instr_place func block (length c.phis + length c.instrs) in
        let phis : List Use = phi_uses f func block 0 b.phis in
        let instrs : List Use = instr_uses func block (length b.phis) (phi_values b) b.instrs in
        let end : List Use = uses_at p block (block_values b) (ending_operands b.term) in
        let rest : Each (IsFine f) (instrs ++ end) = each_right (IsFine f) phis (instrs ++ end) s in
        each_behind (IsFine g) (phi_uses g func block 0 c.phis) (instr_uses func block (length c.phis) (phi_values c) c.instrs ++ uses_at q block (block_values c) (ending_operands c.term))
        (phis_fine func block 0 b.phis c.phis t.phis (each_left (IsFine f) phis (instrs ++ end) s))
        (each_behind (IsFine g) (instr_uses func block (length c.phis) (phi_values c) c.instrs) (uses_at q block (block_values c) (ending_operands c.term))
        (instrs_fine func block (length b.phis) (length c.phis) (phi_values b) (phi_values c) b.instrs c.instrs t.instrs (within_phis block b c t) (each_left (IsFine f) instrs end rest))
        (fine_uses g q block (block_values c) (ending_operands c.term)
        (pairs_sound block (block_values b) (block_values c) (within_block block b c t) (ending_operands b.term) (ending_operands c.term) (term_pairs (IsInPlace w f (block_values c)) b.term c.term t.term)
        (sound_uses f p block (block_values b) (ending_operands b.term) (each_right (IsFine f) instrs end rest)))))

    blocks_fine : (func block : ℕ) (bs cs : List Block) → AreWovenBlocks w m f g block bs cs → Each (IsFine f) (blocks_uses f func block bs) → Each (IsFine g) (blocks_uses g func block cs)
    blocks_fine func block _ _ (NoBlock _) s = tt
    blocks_fine func block _ _ (OneBlock _ b c bs cs t rest) s =
        each_behind (IsFine g) (block_uses g func block c) (blocks_uses g func (block + 1) cs)
        (block_fine func block b c t (each_left (IsFine f) (block_uses f func block b) (blocks_uses f func (block + 1) bs) s))
        (blocks_fine func (block + 1) bs cs rest (each_right (IsFine f) (block_uses f func block b) (blocks_uses f func (block + 1) bs) s))

    pub uses_woven : (func : ℕ) → IsFirstUndefined f (uses_of func f) None → IsFirstUndefined g (uses_of func g) None
    uses_woven func u = all_fine g (uses_of func g) (blocks_fine func 0 f.blocks g.blocks h.blocks (none_undefined f (uses_of func f) None u refl))
