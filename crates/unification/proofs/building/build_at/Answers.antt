-- A letter, a sign with images of its parts, or one that waits.
use Rattle.std.proofs.Common.{refl, arith}
use Rattle.store.proofs.Placing.{grown_same}
use Rattle.unification.proofs.Built.{nones_some, one_fewer, built_one, letter_image, waits_for, parts_inside, sign_image, image_none}
use Rattle.unification.proofs.building.build_at.Goals as goal

pub share_sign-requires : goal.share_sign-requires
share_sign-requires c =
    let b = c.requires.0 in
    let m = c.args.images.now in
    let s = c.in-Sign.ensures in
    let h = nones_some m.at c.args.p.0 (omega (arith, b.few, b.full)) (image_none c.get.result
    c.is_some.result c.get.ensures c.is_some.ensures c.if-is_some.false) in
    let i = parts_inside c.args.store.now c.args.n c.args.classes.now m c.args.p b (omega arith) c.in-Sign.f
    c.in-Sign.m s.1 s.2 c.in-Some.parts c.in-Some.ensures in
    (s.0, (i, omega (arith, b.space)))

pub returns-in-Letter : goal.returns-in-Letter
returns-in-Letter c =
    let b = c.requires.0 in
    let st = c.args.store.now in
    let m = c.args.images.now in
    let p = c.args.p in
    let e = image_none c.get.result c.is_some.result c.get.ensures c.is_some.ensures c.if-is_some.false in
    let f = one_fewer st st c.args.n c.args.classes.now m c.put.new.self p p b (grown_same st) (omega arith) e
    c.put.ensures in
    record {
      built = built_one st st c.args.n c.args.classes.now m c.put.new.self p p b (grown_same st) (omega arith) e
          c.put.ensures b.sound (omega arith)
          (letter_image st c.args.n c.args.classes.now c.put.new.self p c.in-Letter.field-0 (omega (arith, b.within))
          c.in-Letter.ensures.1);
      told = omega arith;
    }

pub returns-in-Some : goal.returns-in-Some
returns-in-Some c =
    let b = c.requires.0 in
    let st = c.args.store.now in
    let su = c.share_sign.new.self in
    let m = c.args.images.now in
    let k = c.put-in-Sign.new.self in
    let p = c.args.p in
    let q = c.share_sign.result in
    let e = image_none c.get.result c.is_some.result c.get.ensures c.is_some.ensures c.if-is_some.false in
    let s = c.share_sign.ensures.shared in
    let v = c.in-Sign.ensures in
    let f = one_fewer st su c.args.n c.args.classes.now m k p q b s.grown (omega arith) e c.put-in-Sign.ensures in
    record {
      built = built_one st su c.args.n c.args.classes.now m k p q b s.grown (omega arith) e c.put-in-Sign.ensures
          s.sound s.few
          (sign_image st c.args.n c.args.classes.now m p b (omega arith) c.in-Sign.f c.in-Sign.m v.1 v.2
          c.in-Some.parts c.in-Some.ensures su k q s e c.put-in-Sign.ensures);
      told = omega arith;
    }

pub returns-in_default-clause-told : goal.returns-in_default-clause-told
returns-in_default-clause-told c =
    let s = c.in-Sign.ensures in
    let x = c.in_default.ensures in (
      refl,
      refl,
      λ e d. waits_for c.args.store.now c.args.n c.args.classes.now c.args.images.now c.args.p c.requires.0 (omega arith)
          c.in-Sign.f c.in-Sign.m s.1 s.2 x.0 x.1,
    )
