-- Each turn stores one module more, and what was read is the layout.
use Rattle.std.proofs.Common.{rules, ◌++◌, drop, length-take, ◌≡◌, ◌∙◌, ◌+◌, List, ℕ, refl, ap, arith, replicate, take-append-drop}
use Rattle.laws.proofs.TableLaws.{table_none}
use Rattle.submission.specs.Format.{module_count, image_length, line_length, entry_offset, data_start, max_modules}
use Rattle.submission.specs.Layout.{module_of, no_module, module_table, ceiling_table, layout_of}
use Rattle.submission.specs.declared.Module.{Module}
use Rattle.submission.proofs.TurnLaws.{filled_more, read_module, next_data}
use Rattle.submission.proofs.read.read_layout.Goals as goal

-- what was read is the layout
laid : (s : List ℕ) (n start image line i : ℕ) (ms : List Module) (cs : List ℕ) (at : ℕ) → n ≡ module_count s → start ≡ entry_offset n → image ≡ image_length s → line ≡ line_length s → i ≡ module_count s → ms ≡ module_table s i → cs ≡ ceiling_table s n → at ≡ data_start s i
    → record { image = record { at = start; len = image }; line = record { at = start + image; len = line }; modules = ms; ceilings = cs; count = n; end = at } ≡ layout_of s
unfolding layout_of
laid s n start image line i ms cs at c b h l e m q d = rw (m, q, d, e, b, c, h, l) refl

pub loop-i-init : goal.loop-i-init
unfolding data_start
loop-i-init c =
    let e : c.default-modules.result ≡ no_module = search rules in
    (rw e (take-append-drop c.args.count (replicate max_modules no_module) ∙ table_none (module_of c.args.s.now) max_modules no_module), cc, omega arith)

pub loop-i-preserved : goal.loop-i-preserved
loop-i-preserved c =
    let s = c.args.s.now in
    let e = c.read_entry in
    let r = c.module_from in (
      filled_more (module_of s) max_modules no_module c.loop-i.i c.loop-i.module-items _ _ (omega arith) c.loop-i.invariant.0 (read_module s c.loop-i.i c.loop-i.at e.result r.result c.loop-i.invariant.1 e.ensures r.ensures.0),
      next_data s c.loop-i.i c.loop-i.at e.result r.result c.loop-i.invariant.1 e.ensures r.ensures.0,
      omega arith,
    )

pub returns : goal.returns
returns c =
    let s = c.args.s.now in
    let e : c.loop-i.i ≡ module_count s = omega (arith, length-take c.args.count (replicate max_modules c.default-modules.result)) in
    let d : c.default-modules.result ≡ no_module = search rules in
    let m = ap (λ (z : Module). c.loop-i.module-items ++ drop c.args.count (replicate max_modules z)) d ∙ c.loop-i.invariant.0 in
    laid s c.args.count c.entry_offset.result c.read_u32.result c.read_u16.result c.loop-i.i _ c.read_ceilings.result c.loop-i.at c.requires.0 c.entry_offset.ensures c.read_u32.ensures c.read_u16.ensures e m c.read_ceilings.ensures c.loop-i.invariant.1
