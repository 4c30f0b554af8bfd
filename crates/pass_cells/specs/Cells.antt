-- Values that cross suspends are kept in cells and fields.
use Rattle.std.specs.Prelude.{ℕ, Bool, List, length, map, slice_get, codes, Some, None, Option, ◌-◌, ◌++◌}
use Rattle.ir_base.specs.declared.name.Name.{Name}
use Rattle.ir_model.specs.declared.module.Function.{Function}
use Rattle.ir_model.specs.declared.module.Module.{Module}
use Rattle.pass_fetch.specs.Blocks.{numbered_names, with_fetches}
use Rattle.pass_fetch.specs.declared.fetch.Fetch.{Fetch}
use Rattle.pass_cells.specs.Plan.{plan_of}
use Rattle.pass_cells.specs.Written.{after_blocks, entry_blocks, entry_front}
use Rattle.pass_cells.specs.declared.plan.KeptValue.{KeptValue}
use Rattle.pass_cells.specs.declared.plan.Plan.{Plan}

-- ---- names of cells and fields

abbrev pub with_own_names : List Name → ℕ → ℕ → List Name
with_own_names names count links =
    names
    ++ numbered_names (codes "$c.cell.") count
    ++ numbered_names (codes "$c.field.") count
    ++ numbered_names (codes "$c.distance.") count
    ++ numbered_names (codes "$c.link.") links

abbrev pub named_function : Plan → Function → Function
named_function p f =
    record {
      name = f.name;
      result = f.result;
      params = f.params;
      coroutine = f.coroutine;
      blocks = f.blocks;
      names = with_own_names f.names (length p.kept) p.links;
    }

-- ---- uses

abbrev pub fetch_by : Option KeptValue → Option Fetch
fetch_by None = None
fetch_by (Some k) = Some (Fetch.Load k.ty k.cell)

abbrev pub fetch_for : List KeptValue → Option ℕ → Option Fetch
fetch_for kept None = None
fetch_for kept (Some k) = fetch_by (slice_get kept k)

-- for each name how its uses are fetched
abbrev pub fetches_of : Plan → List (Option Fetch)
fetches_of p = map (fetch_for p.kept) p.places

-- each use of a value that is kept is loaded from its cell
unfoldable pub fetched_function : Plan → Function → Function
fetched_function p f = with_fetches (named_function p f) (fetches_of p) (codes "$c.use.")

-- ---- the pass

abbrev pub written_function : Module → Plan → Function → Function
written_function m p f =
    let first = length f.names in
    record {
      name = f.name;
      result = f.result;
      params = f.params;
      coroutine = f.coroutine;
      blocks = entry_blocks m p (entry_front p f.params) first f.blocks;
      names = f.names ++ numbered_names (codes "$c.kept.") (after_blocks m p first f.blocks - first);
    }

-- by the plan uses are fetched, and then the rest is written
abbrev pub with_plan : Module → Plan → Function → Function
with_plan m p f = written_function m p (fetched_function p f)

-- crossing are the pairs of values and suspends that they cross; local tells for each name whether it is a local slot
abbrev pub with_cells : Module → Function → List (ℕ × ℕ) → List Bool → Function
with_cells m f crossing local = with_plan m (plan_of f crossing local) f
