-- What the result defines stands once (rule N1), and is a position of its table of names.
use Rattle.std.proofs.Common.{◌≡◌, ◌⊎◌, inl, inr, ⊎_elim, ℕ, ◌+◌, ◌<◌, ◌≤◌, List, [], ◌∷◌, ◌++◌, length, refl, sym, ap, ◌∙◌, subst, arith}
use Rattle.std.proofs.lemmas.Bool.{cases_lt}
use Rattle.std.specs.Prelude.{None, Option, map, option_to_list, ◌==◌}
use Rattle.rule_uses.specs.Undefined.{params_of}
use Rattle.rule_uses.specs.Uses.{block_values, made_by_instrs, made_by_phis, phi_values, values_at}
use Rattle.ir_laws.proofs.facts.Truth.{itself, is_number}
use Rattle.rule_laws.proofs.rules.local_rules.Names.{is_definition, numbers}
use Rattle.rule_laws.proofs.rules.local_rules.Woven.{apart_names, none_twice}
use Rattle.ir_laws.proofs.facts.local_rules.Woven.{other_number}
use Rattle.ir_laws.proofs.paths.source_rules.Locals.{Apart, listed_either, listed_left, listed_right}
use Rattle.rule_laws.proofs.rules.source_rules.Locals.{block_names, made_by, name_of, names_are}
use Rattle.ir_laws.proofs.facts.Lists.{phi_names, row_of, times_joined}
use Rattle.rule_laws.specs.rules.source_rules.Named.{HasTabledLocals}
use Rattle.ir_laws.specs.flow_solver.Paths.{IsListed}
use Rattle.ir_parts.specs.Contents.{result_of}
use Rattle.ir_parts.specs.Locals.{locals_of}
use Rattle.ir_parts.specs.declared.defined.Definition.{Definition}
use Rattle.ir_laws.specs.ir_model.Names.{position_of}
use Rattle.ir_laws.specs.ir_model.declared.instr.Instr.{Instr}
use Rattle.ir_laws.specs.ir_model.declared.instr.Phi.{Phi}
use Rattle.ir_laws.specs.ir_model.declared.module.Block.{Block}
use Rattle.ir_laws.specs.ir_model.declared.module.Function.{Function}
use Rattle.ir_laws.specs.ir_model.declared.module.Module.{Module}
use Rattle.rule_names.specs.Definitions.{first_twice}
use Rattle.rule_laws.proofs.rules.woven_rules.ValueKinds.{listed_result, phis_same, same_result}
use Rattle.rule_laws.specs.rules.woven_rules.Blocks.{AreWoven, AreWovenBlocks, Done, Gone, IsWoven, IsWovenBlock, NoBlock, OneBlock, Put, Remain, times_made}
use Rattle.ir_laws.specs.facts.woven_rules.Pairs.{one_if, times}
use Rattle.rule_laws.specs.rules.woven_rules.Weaving.{IsInPlace, Weaving}
use Rattle.ir_laws.proofs.paths.woven_rules.Once.{times_listed, times_none}

-- no number stands twice, said by how often each does
abbrev pub AreOnce : List ℕ → Type 0
AreOnce ns = (n : ℕ) → times n ns ≤ 1

-- numbers that are apart stand once, and the other way round
pub apart_once : (xs : List ℕ) → Apart xs → AreOnce xs
apart_once [] h n = omega arith
apart_once (x ∷ xs) h n = on (is_number x n) (apart_once xs h.1 n)
  where
    on : (x ≡ n) ⊎ (x ≡ n → ⊥) → times n xs ≤ 1 → times n (x ∷ xs) ≤ 1
    on (inl e) rest =
        let none : times n xs ≡ 0 = times_none n xs (λ l. h.0 (subst (λ (k : ℕ). IsListed k xs) (sym e) l)) in
        let here : one_if (x == n) ≡ 1 = ap one_if (ap (λ (k : ℕ). x == k) (sym e) ∙ itself x) in
        omega (arith, none, here)
    on (inr d) rest =
        let here : one_if (x == n) ≡ 0 = ap one_if (other_number x n d) in
        omega (arith, here, rest)

pub once_apart : (xs : List ℕ) → AreOnce xs → Apart xs
once_apart [] h = tt
once_apart (x ∷ xs) h = (
  λ l.
      let most : times x (x ∷ xs) ≤ 1 = h x in
      let here : one_if (x == x) ≡ 1 = ap one_if (itself x) in
      let more : 1 ≤ times x xs = times_listed x xs l in
      absurd (omega (arith, most, here, more)),
  once_apart xs (λ n. let most : times n (x ∷ xs) ≤ 1 = h n in omega (arith, most)),
)

-- ---- what blocks make

pub times_phis : (n : ℕ) (before : List ℕ) (ps : List Phi) → times n (made_by_phis before ps) ≡ times n before + times n (phi_names ps)
times_phis n before [] = omega arith
times_phis n before (p ∷ ps) = let e : times n (made_by_phis (p.result ∷ before) ps) ≡ times n (p.result ∷ before) + times n (phi_names ps) = times_phis n (p.result ∷ before) ps in omega (arith, e)

pub times_instrs : (n : ℕ) (before : List ℕ) (is : List Instr) → times n (made_by_instrs before is) ≡ times n before + times n (row_of made_by is)
times_instrs n before [] = omega arith
times_instrs n before (i ∷ is) =
    let e : times n (made_by_instrs (made_by i ++ before) is) ≡ times n (made_by i ++ before) + times n (row_of made_by is) = times_instrs n (made_by i ++ before) is in
    let a : times n (made_by i ++ before) ≡ times n (made_by i) + times n before = times_joined n (made_by i) before in
    let b : times n (made_by i ++ row_of made_by is) ≡ times n (made_by i) + times n (row_of made_by is) = times_joined n (made_by i) (row_of made_by is) in
    omega (arith, e, a, b)

pub times_block : (n : ℕ) (b : Block) → times n (block_values b) ≡ times n (phi_names b.phis) + times n (row_of made_by b.instrs)
times_block n b =
    let e : times n (block_values b) ≡ times n (phi_values b) + times n (row_of made_by b.instrs) = times_instrs n (phi_values b) b.instrs in
    let d : times n (phi_values b) ≡ 0 + times n (phi_names b.phis) = times_phis n [] b.phis in
    omega (arith, e, d)

module _ (w : Weaving) (m : Module) (f g : Function) (n : ℕ) where
  same_phis : (block : ℕ) (b c : Block) → IsWovenBlock w m f g block b c → phi_names c.phis ≡ phi_names b.phis
  same_phis block b c h = phis_same (λ (from : ℕ). IsInPlace w f (values_at g (position_of g from))) b.phis c.phis h.phis

  -- ---- old names

  module _ (old : n < w.first) where
    old_instrs : (block : ℕ) (made : List ℕ) (is js : List Instr) → AreWoven w m f block made is js → times n (row_of made_by js) ≤ times n (row_of made_by is)
    old_instrs block made _ _ (Done _) = omega arith
    old_instrs block made _ _ (Put _ j is js h rest) =
        let none : times n (made_by j) ≡ 0 = times_none n (made_by j) (λ l. let low : w.first ≤ n = (h.result n (listed_result (result_of j) n l)).low in absurd (omega (arith, low, old))) in
        let e : times n (made_by j ++ row_of made_by js) ≡ times n (made_by j) + times n (row_of made_by js) = times_joined n (made_by j) (row_of made_by js) in
        let more : times n (row_of made_by js) ≤ times n (row_of made_by is) = old_instrs block (made_by j ++ made) is js rest in
        omega (arith, none, e, more)
    old_instrs block made _ _ (Gone _ i is js h rest) =
        let e : times n (made_by i ++ row_of made_by is) ≡ times n (made_by i) + times n (row_of made_by is) = times_joined n (made_by i) (row_of made_by is) in
        let more : times n (row_of made_by js) ≤ times n (row_of made_by is) = old_instrs block made is js rest in
        omega (arith, e, more)
    old_instrs block made _ _ (Remain _ i j is js h rest) =
        let e : times n (made_by i ++ row_of made_by is) ≡ times n (made_by i) + times n (row_of made_by is) = times_joined n (made_by i) (row_of made_by is) in
        let d : times n (made_by j ++ row_of made_by js) ≡ times n (made_by j) + times n (row_of made_by js) = times_joined n (made_by j) (row_of made_by js) in
        let same : times n (made_by j) ≡ times n (made_by i) = ap (λ (o : Option ℕ). times n (option_to_list o)) (same_result w f made i j h) in
        let more : times n (row_of made_by js) ≤ times n (row_of made_by is) = old_instrs block (made_by j ++ made) is js rest in
        omega (arith, e, d, same, more)

    old_block : (block : ℕ) (b c : Block) → IsWovenBlock w m f g block b c → times n (block_names c) ≤ times n (block_names b)
    old_block block b c h =
        let label : one_if (c.label == n) ≡ one_if (b.label == n) = ap (λ (k : ℕ). one_if (k == n)) h.label in
        let phis : times n (phi_names c.phis) ≡ times n (phi_names b.phis) = ap (times n) (same_phis block b c h) in
        let instrs : times n (row_of made_by c.instrs) ≤ times n (row_of made_by b.instrs) = old_instrs block (phi_values c) b.instrs c.instrs h.instrs in
        let e : times n (phi_names c.phis ++ row_of made_by c.instrs) ≡ times n (phi_names c.phis) + times n (row_of made_by c.instrs) = times_joined n (phi_names c.phis) (row_of made_by c.instrs) in
        let d : times n (phi_names b.phis ++ row_of made_by b.instrs) ≡ times n (phi_names b.phis) + times n (row_of made_by b.instrs) = times_joined n (phi_names b.phis) (row_of made_by b.instrs) in
        omega (arith, label, phis, instrs, e, d)

    old_blocks : (block : ℕ) (bs cs : List Block) → AreWovenBlocks w m f g block bs cs → times n (row_of block_names cs) ≤ times n (row_of block_names bs)
    old_blocks block _ _ (NoBlock _) = omega arith
    old_blocks block _ _ (OneBlock _ b c bs cs h rest) =
        let here : times n (block_names c) ≤ times n (block_names b) = old_block block b c h in
        let more : times n (row_of block_names cs) ≤ times n (row_of block_names bs) = old_blocks (block + 1) bs cs rest in
        let e : times n (block_names c ++ row_of block_names cs) ≡ times n (block_names c) + times n (row_of block_names cs) = times_joined n (block_names c) (row_of block_names cs) in
        let d : times n (block_names b ++ row_of block_names bs) ≡ times n (block_names b) + times n (row_of block_names bs) = times_joined n (block_names b) (row_of block_names bs) in
        omega (arith, here, more, e, d)

  -- ---- new names

  module _ (low : w.first ≤ n) where
    new_blocks : (block : ℕ) (bs cs : List Block) → AreWovenBlocks w m f g block bs cs → ((v : ℕ) → IsListed v (row_of block_names bs) → v < w.first) → times n (row_of block_names cs) ≤ times_made n cs
    new_blocks block _ _ (NoBlock _) below = omega arith
    new_blocks block _ _ (OneBlock _ b c bs cs h rest) below =
        let more : times n (row_of block_names cs) ≤ times_made n cs = new_blocks (block + 1) bs cs rest (λ v l. below v (listed_right v (block_names b) (row_of block_names bs) l)) in
        let high : b.label < w.first = below b.label (inl refl) in
        let label : one_if (c.label == n) ≡ 0 = ap one_if (ap (λ (k : ℕ). k == n) h.label ∙ other_number b.label n (λ e. let here : b.label ≡ n = e in absurd (omega (arith, here, high, low)))) in
        let e : times n (block_names c ++ row_of block_names cs) ≡ times n (block_names c) + times n (row_of block_names cs) = times_joined n (block_names c) (row_of block_names cs) in
        let d : times n (phi_names c.phis ++ row_of made_by c.instrs) ≡ times n (phi_names c.phis) + times n (row_of made_by c.instrs) = times_joined n (phi_names c.phis) (row_of made_by c.instrs) in
        let made : times n (block_values c) ≡ times n (phi_names c.phis) + times n (row_of made_by c.instrs) = times_block n c in
        omega (arith, more, label, e, d, made)

-- ---- what is defined

module _ (w : Weaving) (m : Module) (f g : Function) (v : ℕ) where
  listed_instrs : (block : ℕ) (made : List ℕ) (is js : List Instr) → AreWoven w m f block made is js → IsListed v (row_of made_by js) → IsListed v (row_of made_by is) ⊎ (v < w.after)
  listed_instrs block made _ _ (Done _) l = absurd l
  listed_instrs block made _ _ (Put _ j is js h rest) l =
      ⊎_elim (λ here. inr (h.result v (listed_result (result_of j) v here)).high) (λ more. listed_instrs block (made_by j ++ made) is js rest more) (listed_either v (made_by j) (row_of made_by js) l)
  listed_instrs block made _ _ (Gone _ i is js h rest) l =
      ⊎_elim (λ old. inl (listed_right v (made_by i) (row_of made_by is) old)) (λ new. inr new) (listed_instrs block made is js rest l)
  listed_instrs block made _ _ (Remain _ i j is js h rest) l =
      ⊎_elim
      (λ here. inl (listed_left v (made_by i) (row_of made_by is) (subst (λ (o : Option ℕ). IsListed v (option_to_list o)) (same_result w f made i j h) here)))
      (λ more. ⊎_elim (λ old. inl (listed_right v (made_by i) (row_of made_by is) old)) (λ new. inr new) (listed_instrs block (made_by j ++ made) is js rest more))
      (listed_either v (made_by j) (row_of made_by js) l)

  listed_block : (block : ℕ) (b c : Block) → IsWovenBlock w m f g block b c → IsListed v (block_names c) → IsListed v (block_names b) ⊎ (v < w.after)
  listed_block block b c h (inl e) = inl (inl (e ∙ h.label))
  listed_block block b c h (inr l) =
      ⊎_elim
      (λ p. inl (inr (listed_left v (phi_names b.phis) (row_of made_by b.instrs) (subst (IsListed v) (phis_same (λ (from : ℕ). IsInPlace w f (values_at g (position_of g from))) b.phis c.phis h.phis) p))))
      (λ i. ⊎_elim (λ old. inl (inr (listed_right v (phi_names b.phis) (row_of made_by b.instrs) old))) (λ new. inr new) (listed_instrs block (phi_values c) b.instrs c.instrs h.instrs i))
      (listed_either v (phi_names c.phis) (row_of made_by c.instrs) l)

  listed_blocks : (block : ℕ) (bs cs : List Block) → AreWovenBlocks w m f g block bs cs → IsListed v (row_of block_names cs) → IsListed v (row_of block_names bs) ⊎ (v < w.after)
  listed_blocks block _ _ (NoBlock _) l = absurd l
  listed_blocks block _ _ (OneBlock _ b c bs cs h rest) l =
      ⊎_elim
      (λ here. ⊎_elim (λ old. inl (listed_left v (block_names b) (row_of block_names bs) old)) (λ new. inr new) (listed_block block b c h here))
      (λ more. ⊎_elim (λ old. inl (listed_right v (block_names b) (row_of block_names bs) old)) (λ new. inr new) (listed_blocks (block + 1) bs cs rest more))
      (listed_either v (block_names c) (row_of block_names cs) l)

-- what a function defines is a position of its table of names
pub names_below : (k : ℕ) (f : Function) → HasTabledLocals k f → (v : ℕ) → IsListed v (numbers f) → v < length f.names
names_below k f tabled v l =
    let d = is_definition (locals_of k f) v (subst (IsListed v) (sym (names_are k f)) l) in
    let high : d.0.name < length f.names = tabled d.0 d.1.0 in
    let same : d.0.name ≡ v = d.1.1 in
    omega (arith, high, same)

-- ---- the function

module _ (w : Weaving) (m : Module) (k : ℕ) (f g : Function) (h : IsWoven w m f g) (tabled : HasTabledLocals k f) where
  -- what the function defines is old
  pub below : (v : ℕ) → IsListed v (numbers f) → v < w.first
  below v l =
      let high : v < length f.names = names_below k f tabled v l in
      let first : w.first ≡ length f.names = h.first in
      omega (arith, high, first)

  numbers_once : first_twice [] (locals_of k f) ≡ None → AreOnce (numbers g)
  numbers_once twice n = on (cases_lt n w.first)
    where
      once : AreOnce (numbers f)
      once = apart_once (numbers f) (subst Apart (names_are k f) (apart_names [] (locals_of k f) twice))

      same_params : times n (params_of g) ≡ times n (params_of f)
      same_params = ap (λ ps. times n (map (λ p. p.name) ps)) h.params

      in_g : times n (numbers g) ≡ times n (params_of g) + times n (row_of block_names g.blocks)
      in_g = times_joined n (params_of g) (row_of block_names g.blocks)

      on : (n < w.first) ⊎ (w.first ≤ n) → times n (numbers g) ≤ 1
      on (inl old) =
          let most : times n (numbers f) ≤ 1 = once n in
          let d : times n (numbers f) ≡ times n (params_of f) + times n (row_of block_names f.blocks) = times_joined n (params_of f) (row_of block_names f.blocks) in
          let less : times n (row_of block_names g.blocks) ≤ times n (row_of block_names f.blocks) = old_blocks w m f g n old 0 f.blocks g.blocks h.blocks in
          omega (arith, most, d, less, in_g, same_params)
      on (inr low) =
          let none : times n (params_of f) ≡ 0 = times_none n (params_of f) (λ l. let high : n < w.first = below n (listed_left n (params_of f) (row_of block_names f.blocks) l) in absurd (omega (arith, high, low))) in
          let less : times n (row_of block_names g.blocks) ≤ times_made n g.blocks = new_blocks w m f g n low 0 f.blocks g.blocks h.blocks (λ v l. below v (listed_right v (params_of f) (row_of block_names f.blocks) l)) in
          let most : times_made n g.blocks ≤ 1 = h.once n low in
          omega (arith, none, less, most, in_g, same_params)

  pub definitions_woven : first_twice [] (locals_of k f) ≡ None → first_twice [] (locals_of k g) ≡ None
  definitions_woven twice = none_twice [] (locals_of k g) (subst Apart (sym (names_are k g)) (once_apart (numbers g) (numbers_once twice))) (λ n l. refl)

  listed_woven : (v : ℕ) → IsListed v (numbers g) → v < length g.names
  listed_woven v l =
      let after : w.after ≡ length g.names = h.after in
      let grows : w.first ≤ w.after = h.grows in
      ⊎_elim
      (λ p. let high : v < w.first = below v (listed_left v (params_of f) (row_of block_names f.blocks) (subst (λ ps. IsListed v (map (λ p. p.name) ps)) h.params p)) in omega (arith, high, after, grows))
      (λ b. ⊎_elim (λ old. let high : v < w.first = below v (listed_right v (params_of f) (row_of block_names f.blocks) old) in omega (arith, high, after, grows)) (λ new. let high : v < w.after = new in omega (arith, high, after)) (listed_blocks w m f g v 0 f.blocks g.blocks h.blocks b))
      (listed_either v (params_of g) (row_of block_names g.blocks) l)

  in_names : (ds : List Definition) (d : Definition) → IsListed d ds → IsListed d.name (map name_of ds)
  in_names [] d l = absurd l
  in_names (x ∷ ds) d (inl e) = inl (ap name_of e)
  in_names (x ∷ ds) d (inr l) = inr (in_names ds d l)

  pub tabled_woven : HasTabledLocals k g
  tabled_woven d l = listed_woven d.name (subst (IsListed d.name) (names_are k g) (in_names (locals_of k g) d l))
