use Rattle.curves.proofs.Products.{products}
use Rattle.curves.proofs.vectors.dot.Goals as goal

pub overflow_add-result : goal.overflow_add-result
overflow_add-result c =
    let p = products c.args.v.x c.args.w.x c.args.v.y c.args.w.y c.requires.v_in.x_in c.requires.w_in.x_in c.requires.v_in.y_in c.requires.w_in.y_in in
    rw (p.first, p.second) p.sum_fits

pub returns : goal.returns
returns c =
    let p = products c.args.v.x c.args.w.x c.args.v.y c.args.w.y c.requires.v_in.x_in c.requires.w_in.x_in c.requires.v_in.y_in c.requires.w_in.y_in in
    rw (p.first, p.second) p.sum
