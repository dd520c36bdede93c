use Rattle.std.proofs.Common.{sym}
use Rattle.pair_certificate.proofs.CoversAgain.{cover_bad, cover_more, cover_all}
use Rattle.pair_certificate.proofs.cert_first.cover_of.Goals as goal

pub returns-in_default-place_at : goal.returns-in_default-place_at
returns-in_default-place_at c = cover_bad c.args.bytes.now c.loop-next.rest.now c.in-Some.next.now c.loop-next.cover.items (sym c.in-Some.ensures.value) (sym c.in_default-place_at.ensures.value) c.loop-next.invariant

pub loop-next-preserved : goal.loop-next-preserved
loop-next-preserved c = cover_more c.args.bytes.now c.loop-next.rest.now c.in-Some.next.now c.in-Some-place_at.after.now c.loop-next.cover.items c.push.new.self.items c.in-Some-place_at.place (sym c.in-Some.ensures.value) (sym c.in-Some-place_at.ensures.value) c.in-Some-place_at.ensures.range c.in_ok-push.ensures.items c.loop-next.invariant

pub returns : goal.returns
returns c = cover_all c.args.bytes.now c.loop-next.rest.now c.loop-next.cover.items c.from_vec.result (sym c.in_default.ensures.value) c.from_vec.ensures c.loop-next.invariant
