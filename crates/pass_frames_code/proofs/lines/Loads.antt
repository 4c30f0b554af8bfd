-- Loads of kept values give what stands for them.
use Rattle.std.proofs.Common.{◌≡◌, ℕ, ◌+◌, ◌<◌, ◌≤◌, List, length, sym, ap, ◌∙◌, subst, arith}
use Rattle.pass_proofs.proofs.ir_laws.facts.Lists.{get_within}
use Rattle.pass_proofs.specs.ir_model.declared.operand.Operand.{Operand}
use Rattle.pass_proofs.specs.pass_cells.Cells.{fetches_of}
use Rattle.pass_proofs.specs.pass_cells.declared.plan.KeptValue.{KeptValue}
use Rattle.pass_proofs.specs.pass_fetch.Fetching.{value_bytes}
use Rattle.pass_proofs.specs.pass_fetch.declared.fetch.Fetch.{Fetch}
use Rattle.pass_frames_code.proofs.code.Left.{Far, far_named, fetch_found}
use Rattle.pass_frames_code.proofs.code.Names.{Count, First, count_is, has_cells, numbered}
use Rattle.pass_frames_code.proofs.lines.Cells.{kept_type}
use Rattle.pass_proofs.proofs.cells.rules.Fronts.{IsNumbered}
use Rattle.pass_frames_code.specs.Fetched.{CanFetch, IsGiven}
use Rattle.pass_frames_code.specs.Framings.{IsFraming}
use Rattle.pass_frames_code.specs.Lines.{IsKeptType, at_work}
use Rattle.pass_frames_code.specs.Loaded.{load_at, load_of, loaded_value, or_poison}
use Rattle.pass_frames_code.specs.Places.{Framing, named, plan}
use Rattle.pass_frames_code.specs.Related.{AreCellsRight, IsCell, IsKeptValue}
use Rattle.pass_proofs.specs.fetch.rules.Fetches.{base_of}
use Rattle.pass_proofs.proofs.run_laws.access.Ranges.{load_held}
use Rattle.pass_proofs.proofs.run_laws.embedded.Values.{alignment_is}
use Rattle.pass_proofs.specs.run_laws.memory.Pointers.{Home, IsValue}
use Rattle.pass_proofs.specs.run_memory.Memory.{decode, load}
use Rattle.pass_proofs.specs.run_memory.declared.pointer.Value.{Value}
use Rattle.pass_proofs.specs.run_source.declared.state.Activation.{Activation}
use Rattle.pass_proofs.specs.run_step.Step.{Context, Work}
use Rattle.pass_proofs.specs.run_step.Values.{Env, access_of, address, value_in}

module _ (x : Framing) (is : IsFraming x) (homes : List Home) (c : Context) (env : Env) (a : Activation) (w : Work)
    (right : AreCellsRight x homes c.rights w.world.memory env (at_work a w)) where
  module _ (v : ℕ) (k : KeptValue) (kept : IsKeptValue x v k) where
    abbrev cell_is : IsCell c.rights w.world.memory (at_work a w) k.cell k.ty (IsValue homes (value_in env v))
    cell_is = right.values v k kept

    ty_is : IsKeptType k.ty
    ty_is = kept_type k.ty (has_cells x is kept.number k kept.there).ty

    loaded_is : loaded_value x c w v ≡ decode (access_of k.ty) cell_is.bytes
    loaded_is =
        ap (load_at c w (plan x).kept) kept.told
        ∙ ap (load_of c w) kept.there
        ∙ ap (λ (p : Value). or_poison (load c.rights w.world.memory (address p) (access_of k.ty) (value_bytes k.ty)))
        cell_is.address
        ∙ ap or_poison
        (load_held c.rights w.world.memory cell_is.block 0 (value_bytes k.ty) cell_is.bytes cell_is.holds
        (access_of k.ty) (value_bytes k.ty) (cell_is.sized ∙ ty_is.bytes)
        (alignment_is (value_bytes k.ty) ty_is.alignment) (omega arith))

    pub loaded_stands : IsValue homes (value_in env v) (loaded_value x c w v)
    loaded_stands = subst (IsValue homes (value_in env v)) (sym loaded_is) cell_is.has

    load_given : IsGiven c w (Fetch.Load k.ty k.cell) (loaded_value x c w v)
    load_given = record {
      block = cell_is.block;
      offset = 0;
      most = value_bytes k.ty;
      bytes = cell_is.bytes;
      leads = cell_is.address;
      sized = cell_is.sized ∙ ty_is.bytes;
      holds = cell_is.holds;
      alignment = ty_is.alignment;
      aligned = omega arith;
      is = loaded_is;
    }

    cell_low : k.cell < length (named x).names
    cell_low =
        let n : IsNumbered (First x is) (Count x is) kept.number k = numbered x is kept.number k kept.there in
        let lt : kept.number < length (plan x).kept = get_within (plan x).kept kept.number k kept.there in
        let long : length (plan x).kept ≡ Count x is = count_is x is in
        let same : k.cell ≡ First x is + kept.number = n.cell in
        let far : Far x is ≤ length (named x).names = far_named x is in
        omega (arith, lt, long, same, far)

  pub can_load : (n v : ℕ) → length (named x).names ≤ n
      → CanFetch (fetches_of (plan x)) (loaded_value x c w) n c w (Operand.Local v)
  can_load n v low f e =
      let z = fetch_found x is v f e in
      let kept : IsKeptValue x v z.kept = record { number = z.at; told = z.told; there = z.there } in
      let lt : z.kept.cell < length (named x).names = cell_low v z.kept kept in
      subst (λ (g : Fetch). IsGiven c w g (loaded_value x c w v) × (base_of g < n)) (sym z.same)
      (load_given v z.kept kept, omega (arith, lt, low))
