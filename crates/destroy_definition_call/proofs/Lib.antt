pub mod DestroyCall
