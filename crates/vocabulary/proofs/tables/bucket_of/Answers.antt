use Rattle.std.proofs.Common.{◌+◌, ◌%◌, ◌≤◌, ap, ◌∙◌, mod-lt, mul-le-mul, arith}
use Rattle.vocabulary.proofs.Buckets.{weighed_more, weighed_all}
use Rattle.vocabulary.proofs.tables.bucket_of.Goals as goal

pub loop-i-preserved : goal.loop-i-preserved
loop-i-preserved c =
    let s = c.args.name.now in
    let i = c.loop-i.i in
    let same = c.from.ensures in
    let place : i + 1 ≤ 32 = omega arith in
    let byte : c.from.result ≤ 255 = omega arith in
    let by = mul-le-mul place byte in
    let low = c.loop-i.invariant.0 in
    (omega arith, rw same (weighed_more s c.loop-i.sum i c.loop-i-test.true ∙ c.loop-i.invariant.1))

pub returns : goal.returns
returns c = record {
  answer = ap (λ n. n % 512) (weighed_all c.args.name.now c.loop-i.sum c.loop-i.i c.loop-i-test.false ∙ c.loop-i.invariant.1);
  within = mod-lt c.loop-i.sum (omega arith);
}
