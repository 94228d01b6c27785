use Prim.Native.Nat.{suc, ◌-◌, ◌<◌, ◌≤◌}
use mathlib.Core.Path.{◌≡◌, refl, ◌∙◌}
use mathlib.Core.List.{List}
use native.Mathlib.Omega.{arith}
use lib.ListN.{length}
use Rattle.plan.specs.Search.{System, Way}
use Rattle.search.specs.Rows.{at, Rows}
use Rattle.search.proofs.Walking.{one_less, Storing, storing-first, storing-more, storing-done, room_back, room-here, row-there, row-falls}
use Rattle.search.proofs.back.store_way.Goals as goal

pub overflow_sub-at : goal.overflow_sub-at
overflow_sub-at c =
    let some-step : 0 < c.args.steps =
    let w = c.requires.walks in omega (arith, (c.requires.many w.y w.ways w.rows w.there).0) in
    omega (arith, some-step)

pub overflow_mul-at : goal.overflow_mul-at
overflow_mul-at c =
    let some-step : 0 < c.args.steps =
    let w = c.requires.walks in omega (arith, (c.requires.many w.y w.ways w.rows w.there).0) in
    omega (arith, one_less c.args.n c.args.steps (some-step), c.requires.room, c.well_formed)

pub overflow_add-at : goal.overflow_add-at
overflow_add-at c =
    let some-step : 0 < c.args.steps =
    let w = c.requires.walks in omega (arith, (c.requires.many w.y w.ways w.rows w.there).0) in
    omega (arith, one_less c.args.n c.args.steps (some-step), c.requires.room, c.well_formed)

pub store_number-requires : goal.store_number-requires
store_number-requires c =
    let some-step : 0 < c.args.steps =
    let w = c.requires.walks in omega (arith, (c.requires.many w.y w.ways w.rows w.there).0) in (
      c.requires.few-inputs,
      omega (
        arith,
        one_less c.args.n c.args.steps (some-step),
        c.requires.room,
      ),
    )

pub overflow_mul-p : goal.overflow_mul-p
overflow_mul-p c = let w = c.requires.walks in omega (arith, w.there, w.long, w.few)

pub overflow_add-p : goal.overflow_add-p
overflow_add-p c = let w = c.requires.walks in omega (arith, w.there, w.long, w.few)

pub offset_bounds-met-p : goal.offset_bounds-met-p
offset_bounds-met-p c = let w = c.requires.walks in omega (arith, w.there, w.long, w.few)

pub bounds-met-p : goal.bounds-met-p
bounds-met-p c =
    let w = c.requires.walks in omega (
      arith,
      w.there,
      w.long,
      w.few,
    )

pub loop-from-init : goal.loop-from-init
loop-from-init c = (refl, λ y ways r o es er k. k)

pub overflow_sub-at-in-loop-from : goal.overflow_sub-at-in-loop-from
overflow_sub-at-in-loop-from c =
    let storing-in : (y : System) (ways : List Way) → Rows y ways c.args.met.now → c.args.place < length ways → let a = c.args in Storing y ways a.n a.met.now a.place a.m a.out.now c.loop-from.out c.loop-from.at c.loop-from.p c.loop-from.from =
    λ y ways r h. let a = c.args in
    let e = (c.requires.many y ways r h).0 in
    c.loop-from.invariant.1 y ways r a.out.now e c.requires.room
    (storing-first r a.n a.place a.m a.steps a.out.now e c.requires.room h _ c.ix-from.ensures _ _ refl c.store_number.ensures) in
    let promised : let a = c.args in let w = c.requires.walks in Storing w.y w.ways a.n a.met.now a.place a.m a.out.now c.loop-from.out c.loop-from.at c.loop-from.p c.loop-from.from =
    let w = c.requires.walks in storing-in w.y w.ways w.rows w.there in
    let many : let w = c.requires.walks in c.args.steps ≡ suc (length (at w.ways c.args.place).list) =
    let w = c.requires.walks in (c.requires.many w.y w.ways w.rows w.there).0 in
    let back-room : c.args.n.I ≤ c.loop-from.at =
    let a = c.args in
    room_back c.requires.walks.rows a.n a.place a.m a.steps a.out.now (many) c.requires.room c.loop-from.out c.loop-from.at c.loop-from.p c.loop-from.from (promised)
    c.loop-from-test.true in
    omega (arith, back-room)

pub overflow_mul-p-in-loop-from : goal.overflow_mul-p-in-loop-from
overflow_mul-p-in-loop-from c =
    let storing-in : (y : System) (ways : List Way) → Rows y ways c.args.met.now → c.args.place < length ways → let a = c.args in Storing y ways a.n a.met.now a.place a.m a.out.now c.loop-from.out c.loop-from.at c.loop-from.p c.loop-from.from =
    λ y ways r h. let a = c.args in
    let e = (c.requires.many y ways r h).0 in
    c.loop-from.invariant.1 y ways r a.out.now e c.requires.room
    (storing-first r a.n a.place a.m a.steps a.out.now e c.requires.room h _ c.ix-from.ensures _ _ refl c.store_number.ensures) in
    let promised : let a = c.args in let w = c.requires.walks in Storing w.y w.ways a.n a.met.now a.place a.m a.out.now c.loop-from.out c.loop-from.at c.loop-from.p c.loop-from.from =
    let w = c.requires.walks in storing-in w.y w.ways w.rows w.there in
    let w = c.requires.walks in omega (arith, (promised).there, w.long, w.few)

pub overflow_add-p-in-loop-from : goal.overflow_add-p-in-loop-from
overflow_add-p-in-loop-from c =
    let storing-in : (y : System) (ways : List Way) → Rows y ways c.args.met.now → c.args.place < length ways → let a = c.args in Storing y ways a.n a.met.now a.place a.m a.out.now c.loop-from.out c.loop-from.at c.loop-from.p c.loop-from.from =
    λ y ways r h. let a = c.args in
    let e = (c.requires.many y ways r h).0 in
    c.loop-from.invariant.1 y ways r a.out.now e c.requires.room
    (storing-first r a.n a.place a.m a.steps a.out.now e c.requires.room h _ c.ix-from.ensures _ _ refl c.store_number.ensures) in
    let promised : let a = c.args in let w = c.requires.walks in Storing w.y w.ways a.n a.met.now a.place a.m a.out.now c.loop-from.out c.loop-from.at c.loop-from.p c.loop-from.from =
    let w = c.requires.walks in storing-in w.y w.ways w.rows w.there in
    let w = c.requires.walks in omega (arith, (promised).there, w.long, w.few)

pub offset_bounds-met-p-in-loop-from : goal.offset_bounds-met-p-in-loop-from
offset_bounds-met-p-in-loop-from c =
    let storing-in : (y : System) (ways : List Way) → Rows y ways c.args.met.now → c.args.place < length ways → let a = c.args in Storing y ways a.n a.met.now a.place a.m a.out.now c.loop-from.out c.loop-from.at c.loop-from.p c.loop-from.from =
    λ y ways r h. let a = c.args in
    let e = (c.requires.many y ways r h).0 in
    c.loop-from.invariant.1 y ways r a.out.now e c.requires.room
    (storing-first r a.n a.place a.m a.steps a.out.now e c.requires.room h _ c.ix-from.ensures _ _ refl c.store_number.ensures) in
    let promised : let a = c.args in let w = c.requires.walks in Storing w.y w.ways a.n a.met.now a.place a.m a.out.now c.loop-from.out c.loop-from.at c.loop-from.p c.loop-from.from =
    let w = c.requires.walks in storing-in w.y w.ways w.rows w.there in
    let w = c.requires.walks in omega (arith, (promised).there, w.long, w.few)

pub bounds-met-p-in-loop-from : goal.bounds-met-p-in-loop-from
bounds-met-p-in-loop-from c =
    let storing-in : (y : System) (ways : List Way) → Rows y ways c.args.met.now → c.args.place < length ways → let a = c.args in Storing y ways a.n a.met.now a.place a.m a.out.now c.loop-from.out c.loop-from.at c.loop-from.p c.loop-from.from =
    λ y ways r h. let a = c.args in
    let e = (c.requires.many y ways r h).0 in
    c.loop-from.invariant.1 y ways r a.out.now e c.requires.room
    (storing-first r a.n a.place a.m a.steps a.out.now e c.requires.room h _ c.ix-from.ensures _ _ refl c.store_number.ensures) in
    let promised : let a = c.args in let w = c.requires.walks in Storing w.y w.ways a.n a.met.now a.place a.m a.out.now c.loop-from.out c.loop-from.at c.loop-from.p c.loop-from.from =
    let w = c.requires.walks in storing-in w.y w.ways w.rows w.there in
    let w = c.requires.walks in omega (arith, (promised).there, w.long, w.few)

pub store_number-requires-in-loop-from : goal.store_number-requires-in-loop-from
store_number-requires-in-loop-from c =
    let storing-in : (y : System) (ways : List Way) → Rows y ways c.args.met.now → c.args.place < length ways → let a = c.args in Storing y ways a.n a.met.now a.place a.m a.out.now c.loop-from.out c.loop-from.at c.loop-from.p c.loop-from.from =
    λ y ways r h. let a = c.args in
    let e = (c.requires.many y ways r h).0 in
    c.loop-from.invariant.1 y ways r a.out.now e c.requires.room
    (storing-first r a.n a.place a.m a.steps a.out.now e c.requires.room h _ c.ix-from.ensures _ _ refl c.store_number.ensures) in
    let promised : let a = c.args in let w = c.requires.walks in Storing w.y w.ways a.n a.met.now a.place a.m a.out.now c.loop-from.out c.loop-from.at c.loop-from.p c.loop-from.from =
    let w = c.requires.walks in storing-in w.y w.ways w.rows w.there in
    let many : let w = c.requires.walks in c.args.steps ≡ suc (length (at w.ways c.args.place).list) =
    let w = c.requires.walks in (c.requires.many w.y w.ways w.rows w.there).0 in
    let back-room : c.args.n.I ≤ c.loop-from.at =
    let a = c.args in
    room_back c.requires.walks.rows a.n a.place a.m a.steps a.out.now (many) c.requires.room c.loop-from.out c.loop-from.at c.loop-from.p c.loop-from.from (promised)
    c.loop-from-test.true in
    let here-room : c.loop-from.at ≤ length c.args.out.now =
    let a = c.args in
    room-here c.requires.walks.rows a.n a.place a.m a.steps a.out.now (many) c.requires.room c.loop-from.out c.loop-from.at c.loop-from.p c.loop-from.from (promised) in
    (c.requires.few-inputs, omega (arith, back-room, here-room, c.loop-from.invariant.0, c.store_number.auto.t))

pub overflow_sub-p : goal.overflow_sub-p
overflow_sub-p c = omega (arith, c.loop-from-test.true)

pub overflow_mul-p-in-loop-from-2 : goal.overflow_mul-p-in-loop-from-2
overflow_mul-p-in-loop-from-2 c =
    let storing-in : (y : System) (ways : List Way) → Rows y ways c.args.met.now → c.args.place < length ways → let a = c.args in Storing y ways a.n a.met.now a.place a.m a.out.now c.loop-from.out c.loop-from.at c.loop-from.p c.loop-from.from =
    λ y ways r h. let a = c.args in
    let e = (c.requires.many y ways r h).0 in
    c.loop-from.invariant.1 y ways r a.out.now e c.requires.room
    (storing-first r a.n a.place a.m a.steps a.out.now e c.requires.room h _ c.ix-from.ensures _ _ refl c.store_number.ensures) in
    let promised : let a = c.args in let w = c.requires.walks in Storing w.y w.ways a.n a.met.now a.place a.m a.out.now c.loop-from.out c.loop-from.at c.loop-from.p c.loop-from.from =
    let w = c.requires.walks in storing-in w.y w.ways w.rows w.there in
    let many : let w = c.requires.walks in c.args.steps ≡ suc (length (at w.ways c.args.place).list) =
    let w = c.requires.walks in (c.requires.many w.y w.ways w.rows w.there).0 in
    let row_back : c.loop-from.from - 1 < length c.requires.walks.ways =
    let a = c.args in
    row-there c.requires.walks.rows a.n a.place a.m a.steps a.out.now (many) c.requires.room c.loop-from.out c.loop-from.at c.loop-from.p c.loop-from.from (promised)
    c.loop-from-test.true in
    let w = c.requires.walks in omega (
      arith,
      row_back,
      w.long,
      w.few,
      c.loop-from-test.true,
    )

pub overflow_add-p-in-loop-from-2 : goal.overflow_add-p-in-loop-from-2
overflow_add-p-in-loop-from-2 c =
    let storing-in : (y : System) (ways : List Way) → Rows y ways c.args.met.now → c.args.place < length ways → let a = c.args in Storing y ways a.n a.met.now a.place a.m a.out.now c.loop-from.out c.loop-from.at c.loop-from.p c.loop-from.from =
    λ y ways r h. let a = c.args in
    let e = (c.requires.many y ways r h).0 in
    c.loop-from.invariant.1 y ways r a.out.now e c.requires.room
    (storing-first r a.n a.place a.m a.steps a.out.now e c.requires.room h _ c.ix-from.ensures _ _ refl c.store_number.ensures) in
    let promised : let a = c.args in let w = c.requires.walks in Storing w.y w.ways a.n a.met.now a.place a.m a.out.now c.loop-from.out c.loop-from.at c.loop-from.p c.loop-from.from =
    let w = c.requires.walks in storing-in w.y w.ways w.rows w.there in
    let many : let w = c.requires.walks in c.args.steps ≡ suc (length (at w.ways c.args.place).list) =
    let w = c.requires.walks in (c.requires.many w.y w.ways w.rows w.there).0 in
    let row_back : c.loop-from.from - 1 < length c.requires.walks.ways =
    let a = c.args in
    row-there c.requires.walks.rows a.n a.place a.m a.steps a.out.now (many) c.requires.room c.loop-from.out c.loop-from.at c.loop-from.p c.loop-from.from (promised)
    c.loop-from-test.true in
    let w = c.requires.walks in omega (
      arith,
      row_back,
      w.long,
      w.few,
      c.loop-from-test.true,
    )

pub offset_bounds-met-p-in-loop-from-2 : goal.offset_bounds-met-p-in-loop-from-2
offset_bounds-met-p-in-loop-from-2 c =
    let storing-in : (y : System) (ways : List Way) → Rows y ways c.args.met.now → c.args.place < length ways → let a = c.args in Storing y ways a.n a.met.now a.place a.m a.out.now c.loop-from.out c.loop-from.at c.loop-from.p c.loop-from.from =
    λ y ways r h. let a = c.args in
    let e = (c.requires.many y ways r h).0 in
    c.loop-from.invariant.1 y ways r a.out.now e c.requires.room
    (storing-first r a.n a.place a.m a.steps a.out.now e c.requires.room h _ c.ix-from.ensures _ _ refl c.store_number.ensures) in
    let promised : let a = c.args in let w = c.requires.walks in Storing w.y w.ways a.n a.met.now a.place a.m a.out.now c.loop-from.out c.loop-from.at c.loop-from.p c.loop-from.from =
    let w = c.requires.walks in storing-in w.y w.ways w.rows w.there in
    let many : let w = c.requires.walks in c.args.steps ≡ suc (length (at w.ways c.args.place).list) =
    let w = c.requires.walks in (c.requires.many w.y w.ways w.rows w.there).0 in
    let row_back : c.loop-from.from - 1 < length c.requires.walks.ways =
    let a = c.args in
    row-there c.requires.walks.rows a.n a.place a.m a.steps a.out.now (many) c.requires.room c.loop-from.out c.loop-from.at c.loop-from.p c.loop-from.from (promised)
    c.loop-from-test.true in
    let w = c.requires.walks in omega (
      arith,
      row_back,
      w.long,
      w.few,
      c.loop-from-test.true,
    )

pub bounds-met-p-in-loop-from-2 : goal.bounds-met-p-in-loop-from-2
bounds-met-p-in-loop-from-2 c =
    let storing-in : (y : System) (ways : List Way) → Rows y ways c.args.met.now → c.args.place < length ways → let a = c.args in Storing y ways a.n a.met.now a.place a.m a.out.now c.loop-from.out c.loop-from.at c.loop-from.p c.loop-from.from =
    λ y ways r h. let a = c.args in
    let e = (c.requires.many y ways r h).0 in
    c.loop-from.invariant.1 y ways r a.out.now e c.requires.room
    (storing-first r a.n a.place a.m a.steps a.out.now e c.requires.room h _ c.ix-from.ensures _ _ refl c.store_number.ensures) in
    let promised : let a = c.args in let w = c.requires.walks in Storing w.y w.ways a.n a.met.now a.place a.m a.out.now c.loop-from.out c.loop-from.at c.loop-from.p c.loop-from.from =
    let w = c.requires.walks in storing-in w.y w.ways w.rows w.there in
    let many : let w = c.requires.walks in c.args.steps ≡ suc (length (at w.ways c.args.place).list) =
    let w = c.requires.walks in (c.requires.many w.y w.ways w.rows w.there).0 in
    let row_back : c.loop-from.from - 1 < length c.requires.walks.ways =
    let a = c.args in
    row-there c.requires.walks.rows a.n a.place a.m a.steps a.out.now (many) c.requires.room c.loop-from.out c.loop-from.at c.loop-from.p c.loop-from.from (promised)
    c.loop-from-test.true in
    let w = c.requires.walks in omega (
      arith,
      row_back,
      w.long,
      w.few,
      c.loop-from-test.true,
    )

pub loop-from-smaller : goal.loop-from-smaller
loop-from-smaller c =
    let storing-in : (y : System) (ways : List Way) → Rows y ways c.args.met.now → c.args.place < length ways → let a = c.args in Storing y ways a.n a.met.now a.place a.m a.out.now c.loop-from.out c.loop-from.at c.loop-from.p c.loop-from.from =
    λ y ways r h. let a = c.args in
    let e = (c.requires.many y ways r h).0 in
    c.loop-from.invariant.1 y ways r a.out.now e c.requires.room
    (storing-first r a.n a.place a.m a.steps a.out.now e c.requires.room h _ c.ix-from.ensures _ _ refl c.store_number.ensures) in
    let promised : let a = c.args in let w = c.requires.walks in Storing w.y w.ways a.n a.met.now a.place a.m a.out.now c.loop-from.out c.loop-from.at c.loop-from.p c.loop-from.from =
    let w = c.requires.walks in storing-in w.y w.ways w.rows w.there in
    let many : let w = c.requires.walks in c.args.steps ≡ suc (length (at w.ways c.args.place).list) =
    let w = c.requires.walks in (c.requires.many w.y w.ways w.rows w.there).0 in
    let a = c.args in
    row-falls c.requires.walks.rows a.n a.place a.m a.steps a.out.now (many) c.requires.room c.loop-from.out c.loop-from.at c.loop-from.p c.loop-from.from (promised)
    c.loop-from-test.true

pub loop-from-preserved : goal.loop-from-preserved
loop-from-preserved c =
    let a = c.args in (
      c.store_number-in-loop-from.auto.t ∙ c.loop-from.invariant.0,
      λ y ways r o es er k.
          storing-more r a.n a.place a.m a.steps o es er c.loop-from.out c.loop-from.at c.loop-from.p c.loop-from.from (c.loop-from.invariant.1 y ways r o es er k) c.loop-from-test.true _
          c.ix-from-in-loop-from.ensures _ c.store_number-in-loop-from.ensures,
    )

pub overflow_mul-p-2 : goal.overflow_mul-p-2
overflow_mul-p-2 c =
    let storing-past : (y : System) (ways : List Way) → Rows y ways c.args.met.now → c.args.place < length ways → let a = c.args in Storing y ways a.n a.met.now a.place a.m a.out.now c.loop-from.out c.loop-from.at c.loop-from.p c.loop-from.from =
    λ y ways r h. let a = c.args in
    let e = (c.requires.many y ways r h).0 in
    c.loop-from.invariant.1 y ways r a.out.now e c.requires.room
    (storing-first r a.n a.place a.m a.steps a.out.now e c.requires.room h _ c.ix-from.ensures _ _ refl c.store_number.ensures) in
    let w = c.requires.walks in omega (
      arith,
      (storing-past w.y w.ways w.rows w.there).there,
      w.long,
      w.few,
    )

pub offset_bounds-met-p-2 : goal.offset_bounds-met-p-2
offset_bounds-met-p-2 c =
    let storing-past : (y : System) (ways : List Way) → Rows y ways c.args.met.now → c.args.place < length ways → let a = c.args in Storing y ways a.n a.met.now a.place a.m a.out.now c.loop-from.out c.loop-from.at c.loop-from.p c.loop-from.from =
    λ y ways r h. let a = c.args in
    let e = (c.requires.many y ways r h).0 in
    c.loop-from.invariant.1 y ways r a.out.now e c.requires.room
    (storing-first r a.n a.place a.m a.steps a.out.now e c.requires.room h _ c.ix-from.ensures _ _ refl c.store_number.ensures) in
    let w = c.requires.walks in omega (
      arith,
      (storing-past w.y w.ways w.rows w.there).there,
      w.long,
      w.few,
    )

pub bounds-met-p-2 : goal.bounds-met-p-2
bounds-met-p-2 c =
    let storing-past : (y : System) (ways : List Way) → Rows y ways c.args.met.now → c.args.place < length ways → let a = c.args in Storing y ways a.n a.met.now a.place a.m a.out.now c.loop-from.out c.loop-from.at c.loop-from.p c.loop-from.from =
    λ y ways r h. let a = c.args in
    let e = (c.requires.many y ways r h).0 in
    c.loop-from.invariant.1 y ways r a.out.now e c.requires.room
    (storing-first r a.n a.place a.m a.steps a.out.now e c.requires.room h _ c.ix-from.ensures _ _ refl c.store_number.ensures) in
    let w = c.requires.walks in omega (
      arith,
      (storing-past w.y w.ways w.rows w.there).there,
      w.long,
      w.few,
    )

pub store_number-requires-2 : goal.store_number-requires-2
store_number-requires-2 c =
    (c.requires.few-latches, omega (arith, c.requires.room, c.loop-from.invariant.0, c.store_number.auto.t))

pub shape_of-out : goal.shape_of-out
shape_of-out c = c.store_number-2.auto.t ∙ (c.loop-from.invariant.0 ∙ c.store_number.auto.t)

pub returns : goal.returns
returns c =
    let storing-past : (y : System) (ways : List Way) → Rows y ways c.args.met.now → c.args.place < length ways → let a = c.args in Storing y ways a.n a.met.now a.place a.m a.out.now c.loop-from.out c.loop-from.at c.loop-from.p c.loop-from.from =
    λ y ways r h. let a = c.args in
    let e = (c.requires.many y ways r h).0 in
    c.loop-from.invariant.1 y ways r a.out.now e c.requires.room
    (storing-first r a.n a.place a.m a.steps a.out.now e c.requires.room h _ c.ix-from.ensures _ _ refl c.store_number.ensures) in
    λ y ways r h.
    let a = c.args in
    storing-done r a.n a.place a.m a.steps a.out.now (c.requires.many y ways r h).0 c.requires.room c.loop-from.out c.loop-from.at c.loop-from.p c.loop-from.from
    (storing-past y ways r h) (omega (arith, c.loop-from-test.false)) _ c.store_number-2.ensures
