-- The head, 4, the filled tables, and what they are judged by.
use Prim.Native.Nat.{ℕ}
use mathlib.Core.Path.{◌≡◌, sym, ap₂, ◌∙◌}
use Rattle.std.specs.Prelude.{None}
use native.Mathlib.Omega.{arith}
use Rattle.plan.specs.declared.Counts.{Counts}
use Rattle.plan.specs.Refusals.{got}
use Rattle.plan.specs.Circuit.{Tables, seven, words_with, words_to_work, against, least_short}
use Rattle.tables.specs.declared.Sizes.{Sizes}
use Rattle.tables.specs.Lengths.{lengths_in, sizes_of}
use Rattle.laws.proofs.Pairs.{passed-on}
use Rattle.plan.specs.Cards.{card_head}
use Rattle.cards.proofs.reading.Taking.{head-got, head-refused, small, take_head, take_short, ready, fits, take-judged, take-good}
use Rattle.cards.proofs.reading.take_cards.Goals as goal

pub scratch_to_work-needed-requires : goal.scratch_to_work-needed-requires
scratch_to_work-needed-requires c =
    let tables : Tables =
    let a = c.args in
    seven a.inputs.now a.latches.now a.outputs.now a.gates.now a.resets.now a.bads.now a.constraints.now in
    let counts : Counts =
    c.in_ok-n.n in
    let head : card_head c.args.file.now ≡ got (counts) c.in_ok-n.field-0-1 =
    head-got (card_head c.args.file.now) (counts) c.in_ok-n.field-0-1
    (sym c.in_ok-n.was ∙ c.read_head.ensures) in
    let k = small c.args.file.now (tables) c.args.words (counts) _ (head) in
    (k.0, k.2, omega (arith, k.6), omega (arith, k.7))

pub too_short-requires : goal.too_short-requires
too_short-requires c =
    let tables : Tables =
    let a = c.args in
    seven a.inputs.now a.latches.now a.outputs.now a.gates.now a.resets.now a.bads.now a.constraints.now in
    let counts : Counts =
    c.in_ok-n.n in
    let head : card_head c.args.file.now ≡ got (counts) c.in_ok-n.field-0-1 =
    head-got (card_head c.args.file.now) (counts) c.in_ok-n.field-0-1
    (sym c.in_ok-n.was ∙ c.read_head.ensures) in
    let k = small c.args.file.now (tables) c.args.words (counts) _ (head) in
    (k.1, k.3)

pub returns-in-Some : goal.returns-in-Some
returns-in-Some c =
    let tables : Tables =
    let a = c.args in
    seven a.inputs.now a.latches.now a.outputs.now a.gates.now a.resets.now a.bads.now a.constraints.now in
    let counts : Counts =
    c.in_ok-n.n in
    let head : card_head c.args.file.now ≡ got (counts) c.in_ok-n.field-0-1 =
    head-got (card_head c.args.file.now) (counts) c.in_ok-n.field-0-1
    (sym c.in_ok-n.was ∙ c.read_head.ensures) in
    let shorts : c.too_short.result ≡ least_short (against 1 (words_to_work (counts)) (lengths_in (sizes_of (tables)) c.args.words)) =
    c.too_short.ensures
    ∙ ap₂ (λ (k : ℕ) (to : Sizes). least_short (against 1 (words_with k (counts)) (lengths_in to c.args.words)))
    c.scratch_to_work-needed.ensures c.lengths-to.ensures in
    take_short c.args.file.now (tables) c.args.words (counts) _ (head) (tables) _ (sym (shorts) ∙ c.in-Some.is)

pub fill-requires : goal.fill-requires
fill-requires c =
    let tables : Tables =
    let a = c.args in
    seven a.inputs.now a.latches.now a.outputs.now a.gates.now a.resets.now a.bads.now a.constraints.now in
    let counts : Counts =
    c.in_ok-n.n in
    let head : card_head c.args.file.now ≡ got (counts) c.in_ok-n.field-0-1 =
    head-got (card_head c.args.file.now) (counts) c.in_ok-n.field-0-1
    (sym c.in_ok-n.was ∙ c.read_head.ensures) in
    let shorts : c.too_short.result ≡ least_short (against 1 (words_to_work (counts)) (lengths_in (sizes_of (tables)) c.args.words)) =
    c.too_short.ensures
    ∙ ap₂ (λ (k : ℕ) (to : Sizes). least_short (against 1 (words_with k (counts)) (lengths_in to c.args.words)))
    c.scratch_to_work-needed.ensures c.lengths-to.ensures in
    let long : least_short (against 1 (words_to_work (counts)) (lengths_in (sizes_of (tables)) c.args.words)) ≡ None =
    sym (shorts) ∙ c.in_default.is in
    ready c.args.file.now (tables) c.args.words (counts) _ (head) (long)

pub judge-requires : goal.judge-requires
judge-requires c =
    let tables : Tables =
    let a = c.args in
    seven a.inputs.now a.latches.now a.outputs.now a.gates.now a.resets.now a.bads.now a.constraints.now in
    let counts : Counts =
    c.in_ok-n.n in
    let head : card_head c.args.file.now ≡ got (counts) c.in_ok-n.field-0-1 =
    head-got (card_head c.args.file.now) (counts) c.in_ok-n.field-0-1
    (sym c.in_ok-n.was ∙ c.read_head.ensures) in
    let shorts : c.too_short.result ≡ least_short (against 1 (words_to_work (counts)) (lengths_in (sizes_of (tables)) c.args.words)) =
    c.too_short.ensures
    ∙ ap₂ (λ (k : ℕ) (to : Sizes). least_short (against 1 (words_with k (counts)) (lengths_in to c.args.words)))
    c.scratch_to_work-needed.ensures c.lengths-to.ensures in
    let long : least_short (against 1 (words_to_work (counts)) (lengths_in (sizes_of (tables)) c.args.words)) ≡ None =
    sym (shorts) ∙ c.in_default.is in
    fits c.args.file.now (tables) c.args.words (counts) _ (head) (long) _ _ _ _ c.fill.auto.inputs c.fill.auto.latches
    c.fill.auto.outputs c.fill.auto.gates

pub returns-in_err-n : goal.returns-in_err-n
returns-in_err-n c =
    let tables : Tables =
    let a = c.args in
    seven a.inputs.now a.latches.now a.outputs.now a.gates.now a.resets.now a.bads.now a.constraints.now in
    rw (passed-on _ c.from_residual.ensures.1) (take_head c.args.file.now (tables) c.args.words (tables) _
    (head-refused (card_head c.args.file.now) _ (sym c.in_err-n.was ∙ c.read_head.ensures)))

pub returns-in_err-judge : goal.returns-in_err-judge
returns-in_err-judge c =
    let tables : Tables =
    let a = c.args in
    seven a.inputs.now a.latches.now a.outputs.now a.gates.now a.resets.now a.bads.now a.constraints.now in
    let counts : Counts =
    c.in_ok-n.n in
    let head : card_head c.args.file.now ≡ got (counts) c.in_ok-n.field-0-1 =
    head-got (card_head c.args.file.now) (counts) c.in_ok-n.field-0-1
    (sym c.in_ok-n.was ∙ c.read_head.ensures) in
    let shorts : c.too_short.result ≡ least_short (against 1 (words_to_work (counts)) (lengths_in (sizes_of (tables)) c.args.words)) =
    c.too_short.ensures
    ∙ ap₂ (λ (k : ℕ) (to : Sizes). least_short (against 1 (words_with k (counts)) (lengths_in to c.args.words)))
    c.scratch_to_work-needed.ensures c.lengths-to.ensures in
    let long : least_short (against 1 (words_to_work (counts)) (lengths_in (sizes_of (tables)) c.args.words)) ≡ None =
    sym (shorts) ∙ c.in_default.is in
    rw (passed-on _ c.from_residual-in_err-judge.ensures.1)
    (take-judged c.args.file.now (tables) c.args.words (counts) _ (head) (long) c.requires _ _ _ _ c.fill.ensures _
    (sym c.in_err-judge.was ∙ c.judge.ensures))

pub returns : goal.returns
returns c =
    let tables : Tables =
    let a = c.args in
    seven a.inputs.now a.latches.now a.outputs.now a.gates.now a.resets.now a.bads.now a.constraints.now in
    let counts : Counts =
    c.in_ok-n.n in
    let head : card_head c.args.file.now ≡ got (counts) c.in_ok-n.field-0-1 =
    head-got (card_head c.args.file.now) (counts) c.in_ok-n.field-0-1
    (sym c.in_ok-n.was ∙ c.read_head.ensures) in
    let shorts : c.too_short.result ≡ least_short (against 1 (words_to_work (counts)) (lengths_in (sizes_of (tables)) c.args.words)) =
    c.too_short.ensures
    ∙ ap₂ (λ (k : ℕ) (to : Sizes). least_short (against 1 (words_with k (counts)) (lengths_in to c.args.words)))
    c.scratch_to_work-needed.ensures c.lengths-to.ensures in
    let long : least_short (against 1 (words_to_work (counts)) (lengths_in (sizes_of (tables)) c.args.words)) ≡ None =
    sym (shorts) ∙ c.in_default.is in
    take-good c.args.file.now (tables) c.args.words (counts) _ (head) (long) c.requires _ _ _ _ c.fill.ensures
    (sym c.in_ok-judge.was ∙ c.judge.ensures)
