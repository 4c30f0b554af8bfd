-- The new names of the result: each is made once, below the length of its table, and is of the kind that the weaving tells.
use Rattle.std.proofs.Common.{◌≡◌, ◌⊎◌, inl, inr, ⊎_elim, ℕ, ◌+◌, ◌-◌, ◌<◌, ◌≤◌, Bool, List, [], ◌∷◌, ◌++◌, length, refl, sym, ap, ◌∙◌, subst, arith, length-append}
use Rattle.std.specs.Prelude.{Option, Some, codes, map, replicate, slice_get}
use Rattle.pass_fetch_proof.proofs.cells.rules.Counts.{by_phis_rise, lists_joined, params_stored}
use Rattle.pass_edges_proof.proofs.rule_laws.rules.counted.DefinedKinds.{kind_of_instr, made_in}
use Rattle.pass_fetch_proof.proofs.cells.rules.Ends.{IsPlaced, blank_placed, blocks_placed, ends_add, ends_times}
use Rattle.pass_fetch_proof.proofs.cells.rules.Fronts.{IsNumbered, kept_adds, links_add}
use Rattle.pass_fetch_proof.proofs.cells.rules.Keepable.{blocks_tell, keeping_holds, once, params_tell}
use Rattle.pass_fetch_proof.proofs.cells.rules.Plans.{kept_length, kept_numbered}
use Rattle.pass_fetch_proof.proofs.cells.rules.Single.{IsTold}
use Rattle.pass_edges_proof.proofs.rule_laws.rules.counted.Times.{Adds, adds_as, adds_joined, adds_wider, blocks_times, made_both, made_times}
use Rattle.pass_edges_proof.proofs.ir_laws.paths.woven_rules.Once.{times_listed as listed_times, times_none as unlisted_times}
use Rattle.pass_edges_proof.proofs.ir_laws.facts.Lists.{times_joined, phi_names, row_of}
use Rattle.pass_fetch_proof.proofs.cells.rules.Totals.{all_rise, blocks_rise, entry_blocks_add, fetched_blocks_add, numbered_length}
use Rattle.pass_fetch_proof.specs.cells.rules.Asked.{AreCellsFor}
use Rattle.pass_fetch_proof.specs.cells.rules.Weaving.{plan_weaving}
use Rattle.pass_edges_proof.specs.ir_base.declared.name.Name.{Name}
use Rattle.pass_edges_proof.specs.rule_uses.Undefined.{params_of}
use Rattle.pass_edges_proof.proofs.ir_laws.facts.Members.{each_there}
use Rattle.pass_edges_proof.proofs.rule_laws.rules.local_rules.Names.{numbers, is_definition as definition_there}
use Rattle.pass_edges_proof.proofs.rule_laws.rules.source_rules.Locals.{block_names, made_by, names_are}
use Rattle.pass_edges_proof.proofs.ir_laws.paths.source_rules.Locals.{in_row, listed_right}
use Rattle.pass_edges_proof.specs.flow_solver.Paths.{IsListed}
use Rattle.pass_edges_proof.specs.ir_parts.Locals.{locals_of}
use Rattle.pass_edges_proof.specs.rule_laws.rules.function_rules.Kept.{KeepsFunctionRules}
use Rattle.ir_model.specs.declared.instr.Instr.{Instr}
use Rattle.ir_model.specs.declared.module.Block.{Block}
use Rattle.ir_model.specs.declared.module.Function.{Function}
use Rattle.ir_model.specs.declared.module.Module.{Module}
use Rattle.pass_edges_proof.specs.run_laws.changed.Changed.{Each}
use Rattle.pass_edges_proof.specs.pass_fetch.Blocks.{ends_of_blocks, fetched_blocks, next_after_blocks, next_after_phis_by, numbered_names}
use Rattle.pass_edges_proof.specs.pass_fetch.declared.fetch.Fetch.{Fetch}
use Rattle.pass_edges_proof.specs.pass_cells.Cells.{fetched_function, fetches_of, named_function, with_own_names, with_plan}
use Rattle.pass_edges_proof.specs.pass_cells.Kept.{keeping_of}
use Rattle.pass_edges_proof.specs.pass_cells.Links.{link_name}
use Rattle.pass_edges_proof.specs.pass_cells.Plan.{plan_of}
use Rattle.pass_edges_proof.specs.pass_cells.Written.{after_blocks, entry_blocks, entry_front, kept_allocas, link_allocas, stored_params}
use Rattle.pass_edges_proof.specs.pass_cells.declared.plan.Plan.{Plan}
use Rattle.pass_edges_proof.specs.rule_laws.rules.woven_rules.Blocks.{times_made}
use Rattle.pass_edges_proof.specs.ir_laws.facts.woven_rules.Pairs.{times}
use Rattle.pass_edges_proof.specs.rule_laws.rules.woven_rules.Weaving.{Weaving}

-- ---- the counters of the passes

module _ (m : Module) (p : Plan) (f : Function) where
  abbrev pub table : List (Option Fetch)
  table = fetches_of p

  -- the first name of a phi's operands, the first of the others, and the one behind them
  abbrev pub first_phi : ℕ
  first_phi = length (named_function p f).names

  abbrev pub first_use : ℕ
  first_use = next_after_phis_by table first_phi f.blocks

  abbrev pub last_use : ℕ
  last_use = next_after_blocks table first_use f.blocks

  abbrev pub ends : List (List Instr)
  ends = ends_of_blocks table first_phi (replicate first_phi []) f.blocks

  abbrev pub fetched : List Block
  fetched = fetched_blocks table ends first_phi first_use f.blocks

  -- the table of names of the function whose uses are fetched
  abbrev pub fetched_names_of : List Name
  fetched_names_of = (named_function p f).names ++ numbered_names (codes "$c.use.") (last_use - first_phi)

  abbrev pub first_kept : ℕ
  first_kept = length fetched_names_of

  abbrev pub front : List Instr
  front = entry_front p f.params

  pub blocks_are : (with_plan m p f).blocks ≡ entry_blocks m p front first_kept fetched
  unfolding fetched_function
  blocks_are = refl

  pub names_length_is : length (with_plan m p f).names ≡ length (fetched_names_of ++ numbered_names (codes "$c.kept.") (after_blocks m p first_kept fetched - first_kept))
  unfolding fetched_function
  names_length_is = refl

  pub name_is : (with_plan m p f).name ≡ f.name
  unfolding fetched_function
  name_is = refl

  pub result_of_is : (with_plan m p f).result ≡ f.result
  unfolding fetched_function
  result_of_is = refl

  pub coroutine_is : (with_plan m p f).coroutine ≡ f.coroutine
  unfolding fetched_function
  coroutine_is = refl

  pub params_are : (with_plan m p f).params ≡ f.params
  unfolding fetched_function
  params_are = refl

-- so many names are the function's with the cells and fields
own_length : (names : List Name) (count links : ℕ) → length (with_own_names names count links) ≡ length names + count + count + count + links
own_length names count links =
    let a : List Name = numbered_names (codes "$c.cell.") count in
    let b : List Name = numbered_names (codes "$c.field.") count in
    let c : List Name = numbered_names (codes "$c.distance.") count in
    let d : List Name = numbered_names (codes "$c.link.") links in
    let la = numbered_length (codes "$c.cell.") count in
    let lb = numbered_length (codes "$c.field.") count in
    let lc = numbered_length (codes "$c.distance.") count in
    let ld = numbered_length (codes "$c.link.") links in
    let s1 = length-append names a in
    let s2 = length-append (names ++ a) b in
    let s3 = length-append (names ++ a ++ b) c in
    let s4 = length-append (names ++ a ++ b ++ c) d in
    omega (arith, la, lb, lc, ld, s1, s2, s3, s4)

-- a list of blocks is empty, or with a front in its first block
entry_either : (n : ℕ) (m : Module) (p : Plan) (start : List Instr) (k : ℕ) (bs : List Block) → (times n (row_of block_names (entry_blocks m p start k bs)) ≡ 0) ⊎ Adds k (after_blocks m p k bs) n (times n (row_of block_names bs) + made_times n start) (times n (row_of block_names (entry_blocks m p start k bs)))
entry_either n m p start k [] = inl refl
entry_either n m p start k (b ∷ bs) = inr (entry_blocks_add n m p start k b bs)

module _ (m : Module) (k : ℕ) (f : Function) (rules : KeepsFunctionRules m k f) (crossing : List (ℕ × ℕ)) (local : List Bool) (asked : AreCellsFor k f crossing local) where
  abbrev pub plan : Plan
  plan = plan_of f crossing local

  abbrev pub result : Function
  result = with_plan m plan f

  abbrev pub weaving : Weaving
  weaving = plan_weaving m plan f

  abbrev first : ℕ
  first = length f.names

  -- what the function defines are names of its table
  pub defined_below : (n : ℕ) → IsListed n (numbers f) → n < length f.names
  defined_below n h =
      let x = definition_there (locals_of k f) n (subst (λ (l : List ℕ). IsListed n l) (sym (names_are k f)) h) in
      subst (λ (j : ℕ). j < length f.names) x.1.1 (rules.tabled x.0 x.1.0)

  -- so the new names are none of them
  new_uncounted : (n : ℕ) → first ≤ n → times n (numbers f) ≡ 0
  new_uncounted n low = unlisted_times n (numbers f) (λ l. let lt : n < length f.names = defined_below n l in omega (arith, lt, low))

  -- ---- where the counters stand

  phi_first : link_name first (length plan.kept) plan.links ≡ first_phi m plan f
  phi_first = let e = own_length f.names (length plan.kept) plan.links in omega (arith, e)

  use_low : first_phi m plan f ≤ first_use m plan f
  use_low = by_phis_rise 0 (table m plan f) (first_phi m plan f) f.blocks

  use_high : first_use m plan f ≤ last_use m plan f
  use_high = blocks_rise 0 (table m plan f) (ends m plan f) (first_use m plan f) f.blocks

  kept_first : first_kept m plan f ≡ last_use m plan f
  kept_first =
      let words : List Name = numbered_names (codes "$c.use.") (last_use m plan f - first_phi m plan f) in
      let long = length-append (named_function plan f).names words in
      let more = numbered_length (codes "$c.use.") (last_use m plan f - first_phi m plan f) in
      let low = use_low in
      let high = use_high in
      omega (arith, long, more, low, high)

  kept_low : first_kept m plan f ≤ after_blocks m plan (first_kept m plan f) (fetched m plan f)
  kept_low = all_rise 0 m plan (first_kept m plan f) (fetched m plan f)

  abbrev last : ℕ
  last = after_blocks m plan (first_kept m plan f) (fetched m plan f)

  pub names_length : length result.names ≡ last
  names_length =
      let words : List Name = numbered_names (codes "$c.kept.") (last - first_kept m plan f) in
      let long = length-append (fetched_names_of m plan f) words in
      let more = numbered_length (codes "$c.kept.") (last - first_kept m plan f) in
      let low = kept_low in
      let is = names_length_is m plan f in
      omega (arith, long, more, low, is)

  pub first_phi_low : first ≤ first_phi m plan f
  first_phi_low = let e = phi_first in omega (arith, e)

  pub first_use_low : first ≤ first_use m plan f
  first_use_low = let a = first_phi_low in let b = use_low in omega (arith, a, b)

  pub first_kept_low : first ≤ first_kept m plan f
  first_kept_low = let a = first_use_low in let b = use_high in let c = kept_first in omega (arith, a, b, c)

  pub last_low : first ≤ length result.names
  last_low = let a = first_kept_low in let b = kept_low in let c = names_length in omega (arith, a, b, c)

  -- ---- each new name is made once

  module _ (n : ℕ) where
    front_adds : Adds first (first_phi m plan f) n 0 (made_times n (front m plan f))
    front_adds =
        let kept : List Instr = kept_allocas plan.kept in
        let links : List Instr = link_allocas first (length plan.kept) plan.links in
        let count_is : length plan.kept ≡ length (keeping_of first crossing).values = kept_length first (length (keeping_of first crossing).values) _ _ _ 0 (keeping_of first crossing).values in
        let one : Adds first (link_name first (length plan.kept) 0) n 0 (made_times n kept) =
        kept_adds n first plan.kept (λ at x e. subst (λ (c : ℕ). IsNumbered first c at x) (sym count_is) (kept_numbered weaving m f crossing local (keeping_holds m k f rules crossing local asked) (params_tell m k f rules crossing local asked) (blocks_tell m k f rules crossing local asked) at x e)) in
        let two : Adds (link_name first (length plan.kept) 0) (link_name first (length plan.kept) plan.links) n 0 (made_times n links) = links_add n first (length plan.kept) plan.links in
        let both : Adds first (link_name first (length plan.kept) plan.links) n (0 + 0) (made_times n (kept ++ links)) = lists_joined n first (link_name first (length plan.kept) 0) (link_name first (length plan.kept) plan.links) 0 0 kept links (omega arith) (omega arith) one two in
        let stores = params_stored n plan f.params in
        let all = made_both n (kept ++ links) (stored_params plan f.params) in
        let ge = phi_first in
        adds_wider first (link_name first (length plan.kept) plan.links) first (first_phi m plan f) n 0 (made_times n (front m plan f)) (omega arith) (omega (arith, ge))
        (adds_as first (link_name first (length plan.kept) plan.links) n 0 (made_times n (kept ++ links)) 0 (made_times n (front m plan f)) refl (omega (arith, stores, all)) both)

    ends_adds : Adds (first_phi m plan f) (first_use m plan f) n 0 (ends_times (table m plan f) n (ends m plan f) f.blocks)
    ends_adds =
        let placed : IsPlaced (table m plan f) n (first_phi m plan f) (first_use m plan f) (ends m plan f) = blocks_placed (table m plan f) n (first_phi m plan f) (first_phi m plan f) (replicate (first_phi m plan f) []) f.blocks (omega arith) (blank_placed (table m plan f) n (first_phi m plan f) (first_phi m plan f)) in
        let both = times_joined placed.label (params_of f) (row_of block_names f.blocks) in
        let few = once m k f rules crossing local asked placed.label in
        ends_add (table m plan f) n (first_phi m plan f) (first_use m plan f) (ends m plan f) f.blocks placed (omega (arith, both, few))

    module _ (low : first ≤ n) where
      -- the result makes it at most once, and only if it is in the table
      made_adds : Adds first last n 0 (times n (row_of block_names result.blocks))
      made_adds = ⊎_elim (λ z. none z) some (entry_either n m plan (front m plan f) (first_kept m plan f) (fetched m plan f))
        where
          none : times n (row_of block_names (entry_blocks m plan (front m plan f) (first_kept m plan f) (fetched m plan f))) ≡ 0 → Adds first last n 0 (times n (row_of block_names result.blocks))
          none z = record { extra = 0; sum = ap (λ (bs : List Block). times n (row_of block_names bs)) (blocks_are m plan f) ∙ z; within = inl refl }

          some : Adds (first_kept m plan f) last n (times n (row_of block_names (fetched m plan f)) + made_times n (front m plan f)) (times n (row_of block_names (entry_blocks m plan (front m plan f) (first_kept m plan f) (fetched m plan f)))) → Adds first last n 0 (times n (row_of block_names result.blocks))
          some d =
              let old = new_uncounted n low in
              let both = times_joined n (params_of f) (row_of block_names f.blocks) in
              let c = fetched_blocks_add n (table m plan f) (ends m plan f) (first_phi m plan f) (first_use m plan f) f.blocks in
              let uses : Adds (first_use m plan f) (last_use m plan f) n 0 c.extra = record { extra = c.extra; sum = omega arith; within = c.within } in
              let written : Adds (first_kept m plan f) last n 0 d.extra = record { extra = d.extra; sum = omega arith; within = d.within } in
              let at = kept_first in
              let l1 = first_phi_low in
              let l2 = use_low in
              let l3 = use_high in
              let l4 = kept_low in
              let e : ℕ = ends_times (table m plan f) n (ends m plan f) f.blocks in
              let one : Adds first (first_use m plan f) n (0 + 0) (made_times n (front m plan f) + e) = adds_joined first (first_phi m plan f) (first_use m plan f) n 0 0 (made_times n (front m plan f)) e l1 l2 front_adds ends_adds in
              let two : Adds first (first_kept m plan f) n (0 + 0 + 0) (made_times n (front m plan f) + e + c.extra) =
              adds_joined first (first_use m plan f) (first_kept m plan f) n (0 + 0) 0 (made_times n (front m plan f) + e) c.extra (omega (arith, l1, l2)) (omega (arith, l3, at)) one
              (adds_wider (first_use m plan f) (last_use m plan f) (first_use m plan f) (first_kept m plan f) n 0 c.extra (omega arith) (omega (arith, at)) uses) in
              let three : Adds first last n (0 + 0 + 0 + 0) (made_times n (front m plan f) + e + c.extra + d.extra) =
              adds_joined first (first_kept m plan f) last n (0 + 0 + 0) 0 (made_times n (front m plan f) + e + c.extra) d.extra (omega (arith, l1, l2, l3, at)) l4 two written in
              let cs = c.sum in
              let ds = d.sum in
              let is = ap (λ (bs : List Block). times n (row_of block_names bs)) (blocks_are m plan f) in
              adds_as first last n (0 + 0 + 0 + 0) (made_times n (front m plan f) + e + c.extra + d.extra) 0 (times n (row_of block_names result.blocks)) refl (omega (arith, is, ds, cs, old, both)) three

      made_few : times n (row_of block_names result.blocks) ≤ 1
      made_few = let a = made_adds in let sum = a.sum in ⊎_elim (λ z. omega (arith, sum, z)) (λ o. let only = o.0 in omega (arith, sum, only)) a.within

      made_below : 1 ≤ times n (row_of block_names result.blocks) → n < length result.names
      made_below some = let a = made_adds in let sum = a.sum in let is = names_length in ⊎_elim (λ z. absurd (omega (arith, sum, z, some))) (λ o. let high : n < last = o.2 in omega (arith, high, is)) a.within

      pub numbers_few : times n (numbers result) ≤ 1
      numbers_few =
          let old = new_uncounted n low in
          let both = times_joined n (params_of f) (row_of block_names f.blocks) in
          let params : times n (params_of result) ≡ times n (params_of f) = ap (λ ps. times n (map (λ x. x.name) ps)) (params_are m plan f) in
          let all = times_joined n (params_of result) (row_of block_names result.blocks) in
          let few = made_few in
          omega (arith, old, both, params, all, few)

      pub made_once : times_made n result.blocks ≤ 1
      made_once = let a = blocks_times n result.blocks in let b = made_few in omega (arith, a, b)

  -- ---- instructions tell what the weaving says

  instr_told : (j : ℕ) (b : Block) (at : ℕ) (i : Instr) → slice_get result.blocks j ≡ Some b → slice_get b.instrs at ≡ Some i → IsTold weaving i
  instr_told j b at i got there n makes low =
      let made : IsListed n (row_of made_by b.instrs) = in_row made_by b.instrs at n i there (made_in i n makes) in
      let listed : IsListed n (row_of block_names result.blocks) = in_row block_names result.blocks j n b got (inr (listed_right n (phi_names b.phis) (row_of made_by b.instrs) made)) in
      record {
        low = low;
        high = made_below n low (listed_times n (row_of block_names result.blocks) listed);
        kind = sym (kind_of_instr result n (numbers_few n low) j b at i got there makes);
      }

  pub blocks_told : Each (λ b. Each (IsTold weaving) b.instrs) result.blocks
  blocks_told = each_there _ result.blocks (λ j b got. each_there (IsTold weaving) b.instrs (λ at i there. instr_told j b at i got there))
