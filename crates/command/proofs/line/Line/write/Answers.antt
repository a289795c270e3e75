use Rattle.std.proofs.Common.{◌≡◌, ◌++◌, length, decimal, sym, ap, ◌∙◌, arith}
use Rattle.command.specs.Shown.{ending_shown, shown}
use Rattle.command.proofs.Puts.{put_one, put_then, put_is, three_before}
use Rattle.command.proofs.line.Line.write.Goals as goal

pub returns : goal.returns
returns c =
    let first = c.push_reserved.ensures in
    let second = c.push_reserved-2.ensures in
    let third = c.push_reserved-3.ensures in
    let reply = c.args.reply.now in
    let three : length reply.servers ≡ 3 = omega arith in
    let number = put_is c.put_number.ensures (ap decimal c.from.ensures) in
    let all =
    put_then number
    (put_then (put_one c.put_number.new.out c.push_reserved.new.self first.items first.len first.capacity)
    (put_then c.put_server.ensures
    (put_then (put_one c.put_server.new.out c.push_reserved-2.new.self second.items second.len second.capacity)
    (put_then c.put_server-2.ensures
    (put_then (put_one c.put_server-2.new.out c.push_reserved-3.new.self third.items third.len third.capacity)
    (put_then c.put_server-3.ensures c.put_ending.ensures))))))
    in
    (put_is all (ap (λ z. decimal reply.number ++ z) (sym (three_before (ending_shown reply.found) reply.servers three _)))).items
    ∙ ap (λ z. z ++ shown reply) c.clear.ensures.items
