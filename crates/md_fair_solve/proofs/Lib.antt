pub mod NarrowLeasts
